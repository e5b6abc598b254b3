use Rattle.report_laws.proofs.Listing.{few-rows}
use Rattle.report_laws.proofs.rows_differ.Goals as goal

pub returns : goal.returns
returns c = λ table snaps state journal root from to dirs all. few-rows table snaps state all journal root from to dirs
