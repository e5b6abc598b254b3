use Rattle.hs_plain.proofs.Trees.{moded-here, moded-elsewhere}
use Rattle.hs_plain.proofs.laws.trees.node_after_mode.Goals as goal

pub returns-clause-here : goal.returns-clause-here
returns-clause-here c = λ tree path mode tick. moded-here tree path mode tick

pub returns-clause-elsewhere : goal.returns-clause-elsewhere
returns-clause-elsewhere c = λ tree path mode tick other ne. moded-elsewhere tree path mode tick other ne
