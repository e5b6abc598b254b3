use Rattle.table_laws.proofs.WholeDeeds.{mode-stands}
use Rattle.table_laws.proofs.call_laws.mode_stands.Goals as goal

pub returns : goal.returns
returns c = λ t state issued path chain node mode before reach. mode-stands t state issued path chain node before reach mode
