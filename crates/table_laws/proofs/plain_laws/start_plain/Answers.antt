use Rattle.table_laws.proofs.WholePlain.{plain-start}
use Rattle.table_laws.proofs.plain_laws.start_plain.Goals as goal

pub returns : goal.returns
returns c = plain-start
