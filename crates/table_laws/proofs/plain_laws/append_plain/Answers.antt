use Rattle.table_laws.proofs.WholePlain.{plain-append}
use Rattle.table_laws.proofs.plain_laws.append_plain.Goals as goal

pub returns : goal.returns
returns c = plain-append
