use Rattle.hs_plain.specs.Files.{plain_files}
use Rattle.hs_plain.proofs.SteadyStamps.{steady_so, steady_stamps-after}
use Rattle.hs_plain.proofs.laws.validity.after_keeps_steady_stamps.Goals as goal

pub returns : goal.returns
returns c = λ state entry valid steady. steady_stamps-after state valid (steady_so state steady) plain_files entry
