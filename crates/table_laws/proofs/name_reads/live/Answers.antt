use Rattle.table_laws.proofs.NamedReads.{live-dir}
use Rattle.table_laws.proofs.name_reads.live.Goals as goal

pub returns : goal.returns
returns c = live-dir
