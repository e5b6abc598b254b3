use Rattle.table_laws.proofs.WholePlain.{plain-free}
use Rattle.table_laws.proofs.plain_laws.free_plain.Goals as goal

pub returns : goal.returns
returns c = plain-free
