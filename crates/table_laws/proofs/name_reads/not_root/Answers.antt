use Rattle.table_laws.proofs.NamedReads.{not-root}
use Rattle.table_laws.proofs.name_reads.not_root.Goals as goal

pub returns : goal.returns
returns c = not-root
