use Rattle.table_laws.proofs.Recording.{again-may}
use Rattle.table_laws.proofs.record_laws.again_records.Goals as goal

pub returns : goal.returns
returns c = again-may
