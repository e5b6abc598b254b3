use Rattle.hs_plain.proofs.Trees.{stamped-here, stamped-elsewhere}
use Rattle.hs_plain.proofs.laws.trees.node_after_stamp.Goals as goal

pub returns-clause-here : goal.returns-clause-here
returns-clause-here c = λ tree path tick. stamped-here tree path tick

pub returns-clause-elsewhere : goal.returns-clause-elsewhere
returns-clause-elsewhere c = λ tree path tick other ne. stamped-elsewhere tree path tick other ne
