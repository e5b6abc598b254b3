use Rattle.table_laws.proofs.Recording.{records-snapped}
use Rattle.table_laws.proofs.record_laws.snap_records.Goals as goal

pub returns : goal.returns
returns c = records-snapped
