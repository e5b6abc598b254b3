use Rattle.inode_table.proofs.Ahead.{change-fits}
use Rattle.inode_table.proofs.laws.change_fits.Goals as goal

pub returns : goal.returns
returns c = change-fits
