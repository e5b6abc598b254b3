use Rattle.hs_plain.proofs.Trees.{without-below, without-elsewhere}
use Rattle.hs_plain.proofs.laws.trees.node_after_cut.Goals as goal

pub returns-clause-below : goal.returns-clause-below
returns-clause-below c = λ tree path rest. without-below tree path rest

pub returns-clause-elsewhere : goal.returns-clause-elsewhere
returns-clause-elsewhere c = λ tree path other outside. without-elsewhere tree path other outside
