use Rattle.hs_plain.proofs.SteadyStamps.{steady_stamps-start}
use Rattle.hs_plain.proofs.laws.validity.start_has_steady_stamps.Goals as goal

pub returns : goal.returns
returns c = steady_stamps-start
