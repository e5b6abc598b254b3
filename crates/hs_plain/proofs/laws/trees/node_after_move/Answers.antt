use Rattle.hs_plain.proofs.Trees.{moved-below, moved-elsewhere}
use Rattle.hs_plain.proofs.laws.trees.node_after_move.Goals as goal

pub returns-clause-below : goal.returns-clause-below
returns-clause-below c = λ tree old new rest sorted free. moved-below tree old new sorted free rest

pub returns-clause-elsewhere : goal.returns-clause-elsewhere
returns-clause-elsewhere c = λ tree old new other sorted free outside. moved-elsewhere tree old new sorted free other outside
