use Rattle.inode_table.proofs.Telling.{row-told}
use Rattle.inode_table.proofs.laws.row_told.Goals as goal

pub returns : goal.returns
returns c = row-told
