use Rattle.hs_plain.proofs.ValidPlaces.{one_place}
use Rattle.hs_plain.proofs.Trees.{place-without}
use Rattle.hs_plain.proofs.laws.trees.place_after_cut.Goals as goal

pub returns : goal.returns
returns c = λ tree path id sorted once. place-without tree sorted (one_place tree once) path id
