-- Steps of a deletion, by the plain state. For proofs: contracts of calls speak of the plain machine.
use Rattle.std.specs.Prelude.{◌≡◌, ℕ, Bool, List, [], ◌∷◌, ◌++◌, if◌then◌else◌}
use Rattle.hs_types.specs.Names.{Names}
use Rattle.hs_types.specs.declared.ids.InodeId.{InodeId}
use Rattle.hs_types.specs.declared.refusal.Refusal.TheVariants.{IsRoot, NotEmpty, HasSnapshots}
use Rattle.hs_plain.specs.declared.state.State.{State}
use Rattle.hs_plain.specs.declared.state.FileBlocks.{FileBlocks}
use Rattle.hs_plain.specs.Asked.{Asked, ◌>>=◌, refuse_if}
use Rattle.hs_plain.specs.Modifying.{spares_children}
use Rattle.hs_plain.specs.State.{holds_snapshots}
use Rattle.hs_plain.specs.Tree.{is_root_path, walk}
use Rattle.inode_table.specs.declared.change.Change.TheVariants as changes
use Rattle.inode_table.specs.declared.freed.Freed.{Freed}
use Rattle.inode_table.specs.Kept.{told}
use Rattle.inode_table.specs.Reads.{child}
use Rattle.inode_table.specs.Released.{Releasing}
use Rattle.inode_table.specs.RowHistory.{Table}
use Rattle.inode_table.specs.Tabled.{changed}
use Rattle.table_laws.specs.WholeCalls.{all_disallowed}
use Rattle.table_laws.specs.WholeLaws.{AreGone}
use Rattle.namenode_write.specs.declared.rows.deleting.Going.{Going}
use Rattle.namenode_write.specs.declared.rows.space.RowSpace.{RowSpace}
use Rattle.namenode_write.specs.Rows.{all_of}
use Rattle.namenode_write.specs.Seats.{IsSeat}

-- the tests of a deletion at a path
abbrev pub may_go : State FileBlocks → Names → Bool → Asked (Unit {0})
may_go state path recursive = do
  node ← walk state.tree path
  below ← refuse_if (is_root_path path) IsRoot
  alone ← refuse_if (spares_children state.tree path recursive) NotEmpty
  refuse_if (holds_snapshots state path) HasSnapshots

-- an id at the end of a list, where a test says so
abbrev pub push_if : Bool → InodeId → List InodeId → List InodeId
push_if test id ids = if test then ids ++ id ∷ [] else ids

-- what goes with the node at a path: an entry of the directory above it, and the directories that are snapshottable no more
pub record IsGoing (rows : Table) (state : State FileBlocks) (path : Names) (going : Going) : Type 0 where
  pub above : Names
  pub split : path ≡ child above going.name
  pub seat : IsSeat rows state above going.parent
  pub gone : AreGone state path going.gone

-- it went, with the rows that no list names any more, and their blocks wait
pub record IsRemoved {S : Type 0} (before after : RowSpace S) (going : Going) (tick : ℕ) : Type 0 where
  pub freed : Freed
  pub released : Releasing (changed going.parent.id going.parent.need.0 tick (changes.Remove going.name) (told before.table)) freed (told after.table)
  pub snaps : after.snaps ≡ all_disallowed going.gone before.snaps
  pub waiting : all_of after.waiting.items ≡ all_of before.waiting.items ++ freed.blocks
  pub rest : after ≡ record before { table = after.table; snaps = after.snaps; waiting = after.waiting }
