use Rattle.report_laws.proofs.EndRows.{end-reads}
use Rattle.report_laws.proofs.end_reads.Goals as goal

pub returns : goal.returns
returns c = end-reads
