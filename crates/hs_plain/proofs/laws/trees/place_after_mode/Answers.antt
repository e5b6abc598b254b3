use Rattle.hs_plain.proofs.Trees.{place-moded}
use Rattle.hs_plain.proofs.laws.trees.place_after_mode.Goals as goal

pub returns : goal.returns
returns c = λ tree path mode tick id. place-moded tree path mode tick id
