use Rattle.inode_table.proofs.Doing.{make-stands}
use Rattle.inode_table.proofs.laws.make_stands.Goals as goal

pub returns : goal.returns
returns c = make-stands
