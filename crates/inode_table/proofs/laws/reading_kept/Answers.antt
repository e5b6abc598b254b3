use Rattle.inode_table.proofs.Kept.{reading-kept}
use Rattle.inode_table.proofs.laws.reading_kept.Goals as goal

pub returns : goal.returns
returns c = reading-kept
