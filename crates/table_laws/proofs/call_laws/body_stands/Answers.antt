use Rattle.table_laws.proofs.WholeDeeds.{body-stands}
use Rattle.table_laws.proofs.call_laws.body_stands.Goals as goal

pub returns : goal.returns
returns c = λ t state issued path chain node old file before reach is. body-stands t state issued path chain node before reach old file is
