use Rattle.table_laws.proofs.WholePlain.{plain-call}
use Rattle.table_laws.proofs.plain_laws.call_plain.Goals as goal

pub returns : goal.returns
returns c = plain-call
