use Rattle.hs_plain.proofs.Trees.{put_here, put_there}
use Rattle.hs_plain.proofs.laws.trees.node_after_put.Goals as goal

pub returns-clause-here : goal.returns-clause-here
returns-clause-here c = λ tree path node. put_here path node tree

pub returns-clause-elsewhere : goal.returns-clause-elsewhere
returns-clause-elsewhere c = λ tree path node other ne. put_there path node tree other ne
