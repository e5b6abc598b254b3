use Rattle.inode_table.proofs.Lent.{lent-fits}
use Rattle.inode_table.proofs.laws.lent_fits.Goals as goal

pub returns : goal.returns
returns c = lent-fits
