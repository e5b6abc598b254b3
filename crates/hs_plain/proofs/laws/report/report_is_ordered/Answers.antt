use Rattle.hs_plain.proofs.Ordered.{report_is_ordered}
use Rattle.hs_plain.proofs.laws.report.report_is_ordered.Goals as goal

pub returns : goal.returns
returns c = report_is_ordered
