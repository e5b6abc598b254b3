use Rattle.hs_plain.proofs.ValidPlaces.{one_place}
use Rattle.hs_plain.proofs.Trees.{place-put}
use Rattle.hs_plain.proofs.laws.trees.place_after_put.Goals as goal

pub returns : goal.returns
returns c = λ tree path node id sorted once only. place-put tree sorted (one_place tree once) path node only id
