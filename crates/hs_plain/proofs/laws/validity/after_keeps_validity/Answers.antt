use Rattle.hs_plain.specs.Files.{plain_files}
use Rattle.hs_plain.proofs.Validity.{valid-after}
use Rattle.hs_plain.proofs.laws.validity.after_keeps_validity.Goals as goal

pub returns : goal.returns
returns c = λ state entry valid. valid-after state valid plain_files entry
