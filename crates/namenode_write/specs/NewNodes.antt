-- A new node below a seat: what a call makes of a table, and what it takes. For proofs: contracts of calls speak of the plain state.
use Rattle.std.specs.Prelude.{◌≡◌, ℕ, ◌+◌, ◌<◌, ◌≤◌, Bool, List, ◌++◌, Option, Some, None, Ok}
use Rattle.std.specs.List.{Contains}
use Rattle.hs_types.specs.Blocks.{BlockMap}
use Rattle.hs_types.specs.Names.{Names}
use Rattle.hs_types.specs.declared.ids.BlockId.{BlockId}
use Rattle.hs_types.specs.declared.ids.InodeId.{InodeId}
use Rattle.hs_types.specs.declared.call.Call.{Call}
use Rattle.hs_types.specs.declared.call.Call.TheVariants as calls
use Rattle.hs_types.specs.declared.reply.Reply.{Reply}
use Rattle.hs_types.specs.declared.reply.Reply.TheVariants as replies
use Rattle.hs_plain.specs.declared.state.Node.{Node}
use Rattle.hs_plain.specs.declared.state.State.{State}
use Rattle.hs_plain.specs.declared.state.FileBlocks.{FileBlocks}
use Rattle.hs_plain.specs.Files.{block_files}
use Rattle.hs_plain.specs.Modifying.{mkdir_at, create_at}
use Rattle.hs_plain.specs.Tree.{node_at}
use Rattle.hs_plain.specs.Answer.{asked}
use Rattle.hs_plain.specs.Change.{change, ticked}
use Rattle.snapshot_manager.specs.Snapshots.{Snapshots}
use Rattle.inode_table.specs.declared.change.Change.TheVariants as changes
use Rattle.inode_table.specs.Ahead.{Ahead, HasRoomFor}
use Rattle.inode_table.specs.Blocked.{AreBlocks}
use Rattle.inode_table.specs.Kept.{TableValue, CanChange}
use Rattle.inode_table.specs.Reads.{child}
use Rattle.inode_table.specs.RowHistory.{RowHistory}
use Rattle.inode_table.specs.Tabled.{Tabled, changed}
use Rattle.inode_table.specs.Totals.{weight}
use Rattle.inode_table.specs.Whole.{StandsFor}
use Rattle.table_laws.specs.NameCalls.{row_made}
use Rattle.table_laws.specs.WholeMay.{MayMake}
use Rattle.namenode_write.specs.Seats.{IsSeat}
use Rattle.namenode_write.specs.declared.rows.making_nodes.NewPlace.{NewPlace}
use Rattle.namenode_write.specs.declared.rows.seats.Seat.{Seat}

-- the id after the greatest one
abbrev pub next_id : ℕ → InodeId
next_id greatest = record { 0 = greatest + 1 }

-- a place at the end of a path: the seat of the directory above, the last name, and both as a spot
pub record IsNewPlace (t : Tabled) (snaps : Snapshots) (path : Names) (place : NewPlace) : Type 0 where
  pub above : Names
  pub is : path ≡ child above place.name
  pub seat : (state : State FileBlocks) → StandsFor t snaps state → IsSeat t.rows state above place.parent
  pub spot : place.spot ≡ record { parent = place.parent.id; name = place.name }

-- ---- what is made of a table

-- a new row under the next id, and its entry at the directory's need
abbrev pub entered : Seat → List ℕ → RowHistory → ℕ → ℕ → Tabled → Tabled
entered seat name rows since tick t = row_made (next_id t.greatest) rows since seat.id seat.need.0 tick name t

-- an entry less
abbrev pub without_entry : Seat → List ℕ → ℕ → Tabled → Tabled
without_entry seat name tick t = changed seat.id seat.need.0 tick (changes.Remove name) t

-- what a new node in the place of another asks of a table
pub record MayTakePlace (t : Tabled) (seat : Seat) (name : List ℕ) (rows : RowHistory) (since tick : ℕ) : Type 0 where
  pub out : CanChange t.rows seat.id (changes.Remove name)
  pub make : MayMake (without_entry seat name tick t) since seat.id (next_id t.greatest) name rows

-- a new row and so many changes of the directory can't want memory, nor the next release after them
pub record HasNodeRoom (changes : ℕ) (seat : Seat) (value : TableValue) : Type 0 where
  pub ahead : Ahead
  pub room : HasRoomFor ahead value
  pub insertion : 0 < ahead.insertions
  pub listed : Contains ahead.ids seat.id
  pub some : changes ≤ ahead.changes seat.id
  pub cover : ahead.cover seat.id ≡ seat.need.0
  pub apart : Contains ahead.ids (next_id value.greatest) → ⊥

-- ---- the calls

-- a directory is asked for at a path, in a state that table and snapshots stand for, with the next tick
pub record AsksDir (t : Tabled) (snaps : Snapshots) (path : Names) (tick : ℕ) (state : State FileBlocks) : Type 0 where
  pub stands : StandsFor t snaps state
  pub next : tick ≡ state.tick + 1
  pub text : List ℕ
  pub asks : mkdir_at state text ≡ Ok path

-- and so a file
pub record AsksFile (t : Tabled) (snaps : Snapshots) (path : Names) (tick : ℕ) (state : State FileBlocks) : Type 0 where
  pub stands : StandsFor t snaps state
  pub next : tick ≡ state.tick + 1
  pub text : List ℕ
  pub over : Bool
  pub asks : create_at state text over ≡ Ok path

-- in whatever state they stand for no node is at the path
abbrev pub IsFree : Tabled → Snapshots → Names → Type 0
IsFree t snaps path = (state : State FileBlocks) → StandsFor t snaps state → node_at state.tree path ≡ None

-- or one is
abbrev pub IsTaken : Tabled → Snapshots → Names → Type 0
IsTaken t snaps path = (state : State FileBlocks) → StandsFor t snaps state → (old : Node FileBlocks) × (node_at state.tree path ≡ Some old)

-- the call that is made then
abbrev pub mkdir_call : {t : Tabled} {snaps : Snapshots} {path : Names} {tick : ℕ} {state : State FileBlocks} → AsksDir t snaps path tick state → Call
mkdir_call asks = calls.Mkdir asks.text

abbrev pub create_call : {t : Tabled} {snaps : Snapshots} {path : Names} {tick : ℕ} {state : State FileBlocks} → AsksFile t snaps path tick state → Call
create_call asks = calls.Create asks.text asks.over

-- a call was done on a table that stands for a state, and let blocks go
pub record IsCalledFreeing (t now : Tabled) (freed : List BlockId) (snaps : Snapshots) (call : Call) (reply : Reply) (state : State FileBlocks) : Type 0 where
  pub answered : asked block_files state call ≡ Ok reply
  pub stands : StandsFor now snaps (ticked (change block_files state call))
  pub blocks : (store : Option BlockMap) (made : ℕ) (waiting : List BlockId) → AreBlocks t.rows store made waiting → AreBlocks now.rows store made (waiting ++ freed)
  pub light : weight now.rows ≤ weight t.rows + 10

-- a file was made: more blocks may wait then
pub record IsFilePut (t now : Tabled) (snaps : Snapshots) (waiting left : List BlockId) (path : Names) (tick : ℕ) (id : InodeId) : Type 0 where
  pub freed : List BlockId
  pub waits : left ≡ waiting ++ freed
  pub called : (state : State FileBlocks) → (asks : AsksFile t snaps path tick state) → IsCalledFreeing t now freed snaps (create_call asks) (replies.Made id) state
