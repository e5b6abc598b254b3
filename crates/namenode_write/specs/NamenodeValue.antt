-- What contracts see of a namenode.
use Rattle.std.specs.Prelude.{ℕ, List}
use Rattle.hs_types.specs.declared.ids.BlockId.{BlockId}
use Rattle.hs_types.specs.declared.journal.Entry.{Entry}
use Rattle.inode_table.specs.Tabled.{Tabled}
use Rattle.snapshot_manager.specs.Snapshots.{Snapshots}

-- a namenode is its journal, from which all that it answers follows, the store of its files' bytes, the limit of its journal, the rows and snapshots that it holds, and the blocks that wait to be freed
pub record NamenodeValue (B : Type 0) : Type 0 where
  pub entries : List Entry
  pub store : B
  pub limit : ℕ
  pub table : Tabled
  pub snaps : Snapshots
  pub waiting : List BlockId
