use Rattle.hs_plain.specs.Files.{plain_files}
use Rattle.hs_plain.proofs.Validity.{valid-replay}
use Rattle.hs_plain.proofs.laws.validity.replay_is_valid.Goals as goal

pub returns : goal.returns
returns c = λ entries. valid-replay plain_files entries
