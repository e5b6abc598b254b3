use Rattle.hs_plain.proofs.Trees.{node_at-subtree}
use Rattle.hs_plain.proofs.laws.trees.node_in_subtree.Goals as goal

pub returns : goal.returns
returns c = λ tree path below. node_at-subtree tree path below
