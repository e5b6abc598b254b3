use Rattle.inode_table.proofs.Recording.{start-record}
use Rattle.inode_table.proofs.laws.start_record.Goals as goal

pub returns : goal.returns
returns c = start-record
