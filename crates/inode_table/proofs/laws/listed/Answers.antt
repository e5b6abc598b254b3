use Rattle.inode_table.proofs.Listing.{reads-listed}
use Rattle.inode_table.proofs.laws.listed.Goals as goal

pub returns : goal.returns
returns c = reads-listed
