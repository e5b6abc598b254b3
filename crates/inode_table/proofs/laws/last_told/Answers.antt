use Rattle.inode_table.proofs.Telling.{last-told}
use Rattle.inode_table.proofs.laws.last_told.Goals as goal

pub returns : goal.returns
returns c = last-told
