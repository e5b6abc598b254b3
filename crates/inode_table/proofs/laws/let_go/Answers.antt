use Rattle.inode_table.proofs.Going.{let-go}
use Rattle.inode_table.proofs.laws.let_go.Goals as goal

pub returns : goal.returns
returns c = let-go
