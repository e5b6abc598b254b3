use Rattle.table_laws.proofs.Recording.{records-released}
use Rattle.table_laws.proofs.record_laws.release_records.Goals as goal

pub returns : goal.returns
returns c = records-released
