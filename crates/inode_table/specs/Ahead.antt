-- What a `prepare` made room for and isn't made yet: calls that can't want memory, until they are made.
use Rattle.std.specs.Prelude.{◌≡◌, ◌≢◌, ℕ, ◌+◌, ◌-◌, ◌*◌, ◌<◌, ◌≤◌, nat_lt, if◌then◌else◌, List, [], ◌∷◌, length, Option, Some, None}
use Rattle.std.specs.List.{Contains}
use Rattle.std.specs.Option.{option_map}
use Rattle.hs_types.specs.declared.ids.InodeId.{InodeId}
use Rattle.hs_types.specs.declared.ids.SnapId.{SnapId}
use Rattle.hs_plain.specs.Tree.{same_inode}
use Rattle.file_changes.specs.History as files
use Rattle.inode_table.specs.declared.change.Change.{Change}
use Rattle.inode_table.specs.declared.change.Change.TheVariants as changes
use Rattle.inode_table.specs.Kept.{TableValue, told, rows_in, IsRowReady, HasInsertRoom, UsesInsert, HasChangeRoom, UsesChange, IsPrepared, all_ahead, blocks_grown}
use Rattle.inode_table.specs.Numbered.{row_of, with_marks}
use Rattle.inode_table.specs.RowHistory.{RowHistory, File, Dir, row_at, rows_at}
use Rattle.inode_table.specs.Tabled.{changed}
use Rattle.inode_table.specs.Totals.{block_count}

-- the sum over these ids; one that stands twice counts twice
abbrev pub sum_over : (InodeId → ℕ) → List InodeId → ℕ
sum_over f [] = 0
sum_over f (id ∷ ids) = f id + sum_over f ids

-- so many insertions of the next id, and of each of these rows so many changes with that cover
pub record Ahead : Type 0 where
  pub ids : List InodeId
  pub insertions : ℕ
  pub changes : InodeId → ℕ
  pub cover : InodeId → ℕ

-- one insertion, and three changes of each row
abbrev pub prepared_for : List InodeId → (InodeId → ℕ) → Ahead
prepared_for ids cover = record { ids = ids; insertions = 1; changes = λ id. 3; cover = cover }

-- one insertion is made
abbrev pub inserted_one : Ahead → Ahead
inserted_one ahead = record ahead { insertions = ahead.insertions - 1 }

-- one change of a row is made
abbrev pub changed_one : InodeId → Ahead → Ahead
changed_one id ahead = record ahead { changes = λ other. if same_inode other id then ahead.changes other - 1 else ahead.changes other }

-- how many changes are ahead
abbrev pub changes_ahead : Ahead → ℕ
changes_ahead ahead = sum_over ahead.changes ahead.ids

-- how many blocks more so many changes with that cover may name, each of them with one block more than before: a record that is started names what the current state does
abbrev pub blocks_to_come : ℕ → ℕ → Option RowHistory → ℕ
blocks_to_come changes cover None = 0
blocks_to_come changes cover (Some (File file)) = (if nat_lt (files.last_number file) cover then length file.current.blocks else 0) + changes
blocks_to_come changes cover (Some (Dir dir)) = 0

-- and those of all rows
abbrev pub all_to_come : Ahead → TableValue → ℕ
all_to_come ahead value = sum_over (λ id. blocks_to_come (ahead.changes id) (ahead.cover id) (rows_at (told value).rows id)) ahead.ids

-- these calls can't want memory
pub record HasRoomFor (ahead : Ahead) (value : TableValue) : Type 0 where
  pub slots : ahead.insertions ≤ value.room.slots
  pub index : ahead.insertions + changes_ahead ahead ≤ value.room.index
  pub stack : 2 * ahead.insertions + changes_ahead ahead ≤ value.room.stack
  pub blocks : all_to_come ahead value < value.room.blocks
  pub rows : (id : InodeId) → Contains ahead.ids id → IsRowReady (ahead.changes id) (ahead.cover id) (row_of value.rows id)

-- after `prepare`, by its clauses, there is room for all that it promises
abbrev pub PreparedLaw : Type 0
PreparedLaw = (before after : TableValue) (ids : List InodeId) (cover : InodeId → ℕ) → told after ≡ told before → IsPrepared (3 * length ids) (all_ahead (told before).rows ids) after.room
    → ((id : InodeId) → Contains ids id → (number : ℕ) → IsRowReady 3 number (row_of after.rows id)) → HasRoomFor (prepared_for ids cover) after

-- ---- an insertion

-- the next id, of a row that names no blocks
pub record IsNext (value : TableValue) (id : InodeId) (rows : RowHistory) : Type 0 where
  pub next : id.0 ≡ value.greatest + 1
  pub empty : block_count rows ≡ 0

-- it is answered Ok
abbrev pub InsertFitsLaw : Type 0
InsertFitsLaw = (ahead : Ahead) (value : TableValue) (id : InodeId) (rows : RowHistory) → HasRoomFor ahead value → 0 < ahead.insertions → IsNext value id rows
    → HasInsertRoom id rows value.greatest value.room

-- and by its clauses leaves room for the others
abbrev pub InsertLeavesLaw : Type 0
InsertLeavesLaw = (ahead : Ahead) (before after : TableValue) (id : InodeId) (rows : RowHistory) → HasRoomFor ahead before → 0 < ahead.insertions → IsNext before id rows → (Contains ahead.ids id → ⊥)
    → UsesInsert id rows before.greatest before.room after.room → ((other : InodeId) → other ≢ id → row_of after.rows other ≡ row_of before.rows other)
    → HasRoomFor (inserted_one ahead) after

-- ---- a change

-- how many blocks the current state of a row names
abbrev pub blocks_now : Option RowHistory → ℕ
blocks_now None = 0
blocks_now (Some (File file)) = length file.current.blocks
blocks_now (Some (Dir dir)) = 0

-- a body has at most one block more than the one before it
abbrev pub AddsOneBlock : Change → Option RowHistory → Type 0
AddsOneBlock (changes.Mode mode) rows = Unit {0}
AddsOneBlock (changes.Body size blocks) rows = length blocks ≤ blocks_now rows + 1
AddsOneBlock (changes.Add name id) rows = Unit {0}
AddsOneBlock (changes.Remove name) rows = Unit {0}
AddsOneBlock (changes.Move spot) rows = Unit {0}

-- a change of this row is ahead, and this one is such
pub record IsAhead (ahead : Ahead) (value : TableValue) (id : InodeId) (what : Change) : Type 0 where
  pub one : Contains ahead.ids id
  pub some : 0 < ahead.changes id
  pub small : AddsOneBlock what (rows_at (told value).rows id)

-- it is answered Ok
pub record ChangeFits (value : TableValue) (id : InodeId) (cover tick : ℕ) (what : Change) : Type 0 where
  pub room : HasChangeRoom (blocks_grown cover tick what (row_at (told value).rows id)) value.room
  pub ready : IsRowReady 1 cover (row_of value.rows id)

abbrev pub ChangeFitsLaw : Type 0
ChangeFitsLaw = (ahead : Ahead) (value : TableValue) (id : InodeId) (tick : ℕ) (what : Change) → HasRoomFor ahead value → IsAhead ahead value id what
    → ChangeFits value id (ahead.cover id) tick what

-- what the clauses of a `change` say
pub record IsChanged (before after : TableValue) (id : InodeId) (cover tick : ℕ) (what : Change) : Type 0 where
  pub whole : told after ≡ changed id cover tick what (told before)
  pub there : (other : InodeId) → other ≢ id → rows_in (row_of after.rows other) ≡ rows_in (row_of before.rows other)
  pub kept : UsesChange (blocks_grown cover tick what (row_at (told before).rows id)) before.room after.room
  pub ready : (n : ℕ) → IsRowReady (n + 1) cover (row_of before.rows id) → IsRowReady n cover (row_of after.rows id)

-- it leaves room for the others
abbrev pub ChangeLeavesLaw : Type 0
ChangeLeavesLaw = (ahead : Ahead) (before after : TableValue) (id : InodeId) (tick : ℕ) (what : Change) → HasRoomFor ahead before → IsAhead ahead before id what
    → IsChanged before after id (ahead.cover id) tick what → HasRoomFor (changed_one id ahead) after

-- ---- others

-- `set_marks` leaves all
abbrev pub MarksLeaveLaw : Type 0
MarksLeaveLaw = (ahead : Ahead) (before after : TableValue) (id : InodeId) (since carry : SnapId) → HasRoomFor ahead before → row_of after.rows id ≡ option_map (with_marks since carry) (row_of before.rows id)
    → ((other : InodeId) → other ≢ id → row_of after.rows other ≡ row_of before.rows other) → after.room ≡ before.room → HasRoomFor ahead after

-- the next `release` is answered Ok
abbrev pub ReleaseFitsLaw : Type 0
ReleaseFitsLaw = (ahead : Ahead) (value : TableValue) → HasRoomFor ahead value → 0 < value.room.blocks
