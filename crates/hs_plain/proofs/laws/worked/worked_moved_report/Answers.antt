use Rattle.hs_plain.proofs.WorkedPages.{moved_report}
use Rattle.hs_plain.proofs.laws.worked.worked_moved_report.Goals as goal

pub returns : goal.returns
returns c = moved_report
