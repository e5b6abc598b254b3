use Rattle.table_laws.proofs.NamedReads.{entry-there}
use Rattle.table_laws.proofs.name_reads.entry_there.Goals as goal

pub returns : goal.returns
returns c = entry-there
