use Rattle.hs_plain.specs.Files.{plain_files}
use Rattle.hs_plain.proofs.SteadyStamps.{steady_stamps-replay}
use Rattle.hs_plain.proofs.laws.validity.replay_has_steady_stamps.Goals as goal

pub returns : goal.returns
returns c = λ entries. steady_stamps-replay plain_files entries
