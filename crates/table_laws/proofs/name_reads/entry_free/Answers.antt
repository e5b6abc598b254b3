use Rattle.table_laws.proofs.NamedReads.{entry-free}
use Rattle.table_laws.proofs.name_reads.entry_free.Goals as goal

pub returns : goal.returns
returns c = entry-free
