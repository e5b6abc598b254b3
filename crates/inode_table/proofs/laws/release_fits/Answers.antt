use Rattle.inode_table.proofs.Ahead.{release-fits}
use Rattle.inode_table.proofs.laws.release_fits.Goals as goal

pub returns : goal.returns
returns c = release-fits
