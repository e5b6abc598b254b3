use Rattle.table_laws.proofs.WholePlain.{whole-start}
use Rattle.table_laws.proofs.plain_laws.start.Goals as goal

pub returns : goal.returns
returns c = whole-start
