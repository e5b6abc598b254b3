use Rattle.inode_table.proofs.Onces.{once-remove}
use Rattle.inode_table.proofs.laws.once_removed.Goals as goal

pub returns : goal.returns
returns c = once-remove
