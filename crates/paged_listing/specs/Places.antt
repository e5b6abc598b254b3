-- What is there in a plain state. For proofs: contracts of calls speak of the plain state's replies.
use Rattle.std.specs.Prelude.{◌≡◌, true, Ok}
use Rattle.std.specs.List.{Contains}
use Rattle.hs_types.specs.declared.ids.InodeId.{InodeId}
use Rattle.hs_types.specs.declared.ids.SnapId.{SnapId}
use Rattle.hs_types.specs.declared.call.Place.{Place}
use Rattle.hs_types.specs.declared.call.Place.TheVariants as places
use Rattle.hs_plain.specs.declared.state.Member.{Member}
use Rattle.hs_plain.specs.declared.state.State.{State}
use Rattle.hs_plain.specs.declared.state.FileBlocks.{FileBlocks}
use Rattle.hs_plain.specs.Tree.{node_at}
use Rattle.hs_plain.specs.State.{member_with, is_snapshottable}
use Rattle.inode_table.specs.Reads.{Has}

-- the copied tree of a snapshot has the inode
pub record IsCopied (state : State FileBlocks) (snapshot : SnapId) (id : InodeId) : Type 0 where
  pub member : Member FileBlocks
  pub within : Contains state.members member
  pub named : member.snapshot ≡ snapshot
  pub found : member_with state.members snapshot ≡ Ok member
  pub has : Has (node_at member.tree) id

-- the state has the place
abbrev pub IsThere : State FileBlocks → Place → Type 0
IsThere state (places.Live id) = Has (node_at state.tree) id
IsThere state (places.Frozen id snapshot) = IsCopied state snapshot id
IsThere state (places.SnapshotsOf dir) = is_snapshottable state dir ≡ true
