use Rattle.table_laws.proofs.Recording.{live-may}
use Rattle.table_laws.proofs.record_laws.live_records.Goals as goal

pub returns : goal.returns
returns c = live-may
