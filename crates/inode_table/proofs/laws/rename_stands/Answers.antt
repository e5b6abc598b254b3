use Rattle.inode_table.proofs.Renaming.{rename-stands}
use Rattle.inode_table.proofs.laws.rename_stands.Goals as goal

pub returns : goal.returns
returns c = rename-stands
