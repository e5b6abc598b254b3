use Rattle.inode_table.proofs.Ahead.{insert-fits}
use Rattle.inode_table.proofs.laws.insert_fits.Goals as goal

pub returns : goal.returns
returns c = insert-fits
