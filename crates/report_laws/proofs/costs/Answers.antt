use Rattle.report_laws.proofs.Arithmetic.{cost}
use Rattle.report_laws.proofs.Looking.{report-cost}
use Rattle.report_laws.proofs.costs.Goals as goal

pub returns : goal.returns
returns c = record { walks = cost; report = λ table snaps state journal root from to ids longest all. report-cost table snaps state all root journal from to ids longest }
