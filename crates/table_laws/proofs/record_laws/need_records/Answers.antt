use Rattle.table_laws.proofs.Recording.{need-may}
use Rattle.table_laws.proofs.record_laws.need_records.Goals as goal

pub returns : goal.returns
returns c = need-may
