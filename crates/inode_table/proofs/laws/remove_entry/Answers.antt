use Rattle.inode_table.proofs.Editing.{remove-row}
use Rattle.inode_table.proofs.laws.remove_entry.Goals as goal

pub returns : goal.returns
returns c = remove-row
