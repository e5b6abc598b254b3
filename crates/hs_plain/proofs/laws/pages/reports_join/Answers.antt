use Rattle.hs_plain.proofs.JoinedReports.{reports-join}
use Rattle.hs_plain.proofs.laws.pages.reports_join.Goals as goal

pub returns : goal.returns
returns c = reports-join
