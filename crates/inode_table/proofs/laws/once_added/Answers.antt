use Rattle.inode_table.proofs.Onces.{once-add}
use Rattle.inode_table.proofs.laws.once_added.Goals as goal

pub returns : goal.returns
returns c = once-add
