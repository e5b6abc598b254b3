-- A rename over rows: its tests, what it makes of a table at the seats of its three rows, and what it asks of it. For proofs: contracts of
-- calls speak of the plain state.
use Rattle.std.specs.Prelude.{◌≡◌, ℕ, ◌<◌, ◌^◌, List, [], ◌∷◌, Some, Ok}
use Rattle.hs_types.specs.Names.{Names}
use Rattle.hs_types.specs.declared.ids.InodeId.{InodeId}
use Rattle.hs_plain.specs.declared.state.Node.{Node}
use Rattle.hs_plain.specs.declared.state.State.{State}
use Rattle.hs_plain.specs.declared.state.FileBlocks.{FileBlocks}
use Rattle.hs_plain.specs.Asked.{Asked, ◌>>=◌}
use Rattle.hs_plain.specs.Tree.{parent_of}
use Rattle.hs_plain.specs.Report.{last_of}
use Rattle.inode_table.specs.declared.change.Change.TheVariants as changes
use Rattle.inode_table.specs.Kept.{CanChange}
use Rattle.inode_table.specs.RowHistory.{Table, RowState, row_at}
use Rattle.inode_table.specs.Tabled.{Tabled, changed, marked_row}
use Rattle.inode_table.specs.Totals.{weight}
use Rattle.namenode_write.specs.declared.rows.renaming.MoveSeats.{MoveSeats}
use Rattle.namenode_write.specs.declared.rows.renaming.MoveNames.{MoveNames}
use Rattle.namenode_write.specs.Seats.{IsSeat}

-- ---- the tests

-- the id of the node to which the first of two walks leads
abbrev pub first_id : Asked (Node FileBlocks × Unit {0}) → Asked InodeId
first_id walked = walked >>= λ at. Ok at.0.id

-- ---- the rows

-- the rows that a rename from one path to another changes
pub record AreMoveSeats (rows : Table) (state : State FileBlocks) (old new : Names) (seats : MoveSeats) : Type 0 where
  pub from : IsSeat rows state (parent_of old) seats.from
  pub to : IsSeat rows state (parent_of new) seats.to
  pub node : IsSeat rows state old seats.node

-- the names of its entries, and its new spot
pub record AreMoveNames (old new : Names) (parent : InodeId) (names : MoveNames) : Type 0 where
  pub old_name : names.old ≡ last_of old
  pub new_name : names.new ≡ last_of new
  pub spot : names.spot ≡ record { parent = parent; name = last_of new }

-- ---- the steps

-- the entry goes
abbrev pub left : ℕ → MoveSeats → MoveNames → Tabled → Tabled
left tick seats names t = changed seats.from.id seats.from.need.0 tick (changes.Remove names.old) t

-- the new one comes
abbrev pub entered : ℕ → MoveSeats → MoveNames → Tabled → Tabled
entered tick seats names t = changed seats.to.id seats.to.need.0 tick (changes.Add names.new seats.node.id) (left tick seats names t)

-- the node gets its new spot
abbrev pub placed : ℕ → MoveSeats → MoveNames → Tabled → Tabled
placed tick seats names t = changed seats.node.id seats.node.need.0 tick (changes.Move names.spot) (entered tick seats names t)

-- and its marks: the greatest snapshot id issued, and the cover that it had before
abbrev pub moved : ℕ → ℕ → MoveSeats → MoveNames → Tabled → Tabled
moved issued tick seats names t = marked_row seats.node.id issued seats.node.cover.0 (placed tick seats names t)

-- ---- what they ask

-- each change fits, and the row is there at the end
pub record CanMove (tick : ℕ) (seats : MoveSeats) (names : MoveNames) (t : Tabled) : Type 0 where
  pub out : CanChange t.rows seats.from.id (changes.Remove names.old)
  pub entry : CanChange (left tick seats names t).rows seats.to.id (changes.Add names.new seats.node.id)
  pub place : CanChange (entered tick seats names t).rows seats.node.id (changes.Move names.spot)
  pub row : RowState
  pub there : row_at (placed tick seats names t).rows seats.node.id ≡ Some row

-- the table is light enough before each of them
pub record IsLight (tick : ℕ) (seats : MoveSeats) (names : MoveNames) (t : Tabled) : Type 0 where
  pub first : weight t.rows < 2 ^ 32
  pub second : weight (left tick seats names t).rows < 2 ^ 32
  pub third : weight (entered tick seats names t).rows < 2 ^ 32

-- the rows for which room is made; the two directories may be one
abbrev pub ids_of : MoveSeats → List InodeId
ids_of seats = seats.from.id ∷ seats.to.id ∷ seats.node.id ∷ []

-- the need of each of them, by its id
pub record HasNeeds (need : InodeId → ℕ) (seats : MoveSeats) : Type 0 where
  pub from : need seats.from.id ≡ seats.from.need.0
  pub to : need seats.to.id ≡ seats.to.need.0
  pub node : need seats.node.id ≡ seats.node.need.0

-- a row that stands twice has one need
abbrev pub HaveNeeds : MoveSeats → Type 0
HaveNeeds seats = (need : InodeId → ℕ) × HasNeeds need seats
