use Rattle.table_laws.proofs.NamedReads.{no-row}
use Rattle.table_laws.proofs.name_reads.no_row.Goals as goal

pub returns : goal.returns
returns c = no-row
