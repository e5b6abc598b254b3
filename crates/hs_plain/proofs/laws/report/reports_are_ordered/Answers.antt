use Rattle.hs_plain.proofs.OrderedReports.{reports_are_ordered}
use Rattle.hs_plain.proofs.laws.report.reports_are_ordered.Goals as goal

pub returns : goal.returns
returns c = reports_are_ordered
