use Rattle.table_laws.proofs.WholePlain.{plain-tick}
use Rattle.table_laws.proofs.plain_laws.tick_plain.Goals as goal

pub returns : goal.returns
returns c = plain-tick
