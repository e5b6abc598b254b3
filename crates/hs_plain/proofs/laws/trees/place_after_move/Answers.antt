use Rattle.hs_plain.proofs.ValidPlaces.{one_place}
use Rattle.hs_plain.proofs.Trees.{place-moved}
use Rattle.hs_plain.proofs.laws.trees.place_after_move.Goals as goal

pub returns : goal.returns
returns c = λ tree old new id sorted once free. place-moved tree sorted (one_place tree once) old new free id
