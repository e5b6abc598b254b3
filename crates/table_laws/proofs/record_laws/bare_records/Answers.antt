use Rattle.table_laws.proofs.Recording.{records-bare}
use Rattle.table_laws.proofs.record_laws.bare_records.Goals as goal

pub returns : goal.returns
returns c = records-bare
