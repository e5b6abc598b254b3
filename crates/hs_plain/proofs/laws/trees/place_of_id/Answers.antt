use Rattle.hs_plain.proofs.ValidPlaces.{one_place}
use Rattle.hs_plain.proofs.Trees.{place-is}
use Rattle.hs_plain.proofs.laws.trees.place_of_id.Goals as goal

pub returns : goal.returns
returns c = λ tree id path node sorted once. place-is tree sorted (one_place tree once) id path node
