use Rattle.hs_plain.proofs.Trees.{place-stamped}
use Rattle.hs_plain.proofs.laws.trees.place_after_stamp.Goals as goal

pub returns : goal.returns
returns c = λ tree path tick id. place-stamped tree path tick id
