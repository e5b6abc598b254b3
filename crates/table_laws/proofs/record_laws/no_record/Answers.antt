use Rattle.table_laws.proofs.Recording.{no-record}
use Rattle.table_laws.proofs.record_laws.no_record.Goals as goal

pub returns : goal.returns
returns c = no-record
