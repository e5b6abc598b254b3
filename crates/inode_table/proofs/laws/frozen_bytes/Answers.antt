use Rattle.inode_table.proofs.Bytes.{frozen-bytes}
use Rattle.inode_table.proofs.laws.frozen_bytes.Goals as goal

pub returns : goal.returns
returns c = frozen-bytes
