-- A row of the live tree, with what a change of it needs. For proofs: contracts of calls speak of the plain state.
use Rattle.std.specs.Prelude.{◌≡◌, List}
use Rattle.hs_types.specs.Names.{Names}
use Rattle.hs_types.specs.declared.ids.InodeId.{InodeId}
use Rattle.hs_plain.specs.declared.state.Node.{Node}
use Rattle.hs_plain.specs.declared.state.State.{State}
use Rattle.hs_plain.specs.declared.state.FileBlocks.{FileBlocks}
use Rattle.inode_table.specs.RowHistory.{Table}
use Rattle.table_laws.specs.WholeCalls.{way_to, cover_at, need_at}
use Rattle.table_laws.specs.WholeStands.{Reaches}
use Rattle.namenode_write.specs.declared.rows.seats.Seat.{Seat}

-- the row of the node at a path, with its cover and its need
pub record IsSeat (rows : Table) (state : State FileBlocks) (path : Names) (seat : Seat) : Type 0 where
  pub chain : List InodeId
  pub node : Node FileBlocks
  pub reaches : Reaches state path chain node
  pub id : seat.id ≡ node.id
  pub cover : seat.cover.0 ≡ cover_at state rows chain
  pub need : seat.need.0 ≡ need_at state rows (way_to node chain)
