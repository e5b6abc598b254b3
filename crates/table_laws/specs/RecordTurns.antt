-- Rows changed in turn, as one call does it: at numbers that were found before the first change.
use Rattle.std.specs.Prelude.{◌≡◌, ℕ, ◌+◌, ◌<◌, ◌≤◌, List, [], ◌∷◌, length, Some}
use Rattle.std.specs.List.{Contains}
use Rattle.hs_types.specs.declared.ids.InodeId.{InodeId}
use Rattle.hs_plain.specs.declared.state.Member.{Member}
use Rattle.hs_plain.specs.declared.state.FileBlocks.{FileBlocks}
use Rattle.inode_table.specs.declared.change.Change.{Change}
use Rattle.inode_table.specs.Kept.{CanChange}
use Rattle.inode_table.specs.RowHistory.{RowHistory, rows_at}
use Rattle.inode_table.specs.Tabled.{Tabled, changed}
use Rattle.inode_table.specs.Whole.{IsFilled}
use Rattle.table_laws.specs.Recording.{IsRecorded, MayRecord}

-- one change: the row, the number of a record that it may start, and what is changed
pub record RowChange : Type 0 where
  pub id : InodeId
  pub number : ℕ
  pub what : Change

-- what they make of a table
abbrev pub all_changed : ℕ → List RowChange → Tabled → Tabled
all_changed tick [] t = t
all_changed tick (c ∷ cs) t = all_changed tick cs (changed c.id c.number tick c.what t)

-- each can be made in its turn
abbrev pub CanAll : ℕ → List RowChange → Tabled → Type 0
CanAll tick [] t = Unit {0}
CanAll tick (c ∷ cs) t = CanChange t.rows c.id c.what × CanAll tick cs (changed c.id c.number tick c.what t)

-- a row that is changed twice has one number
abbrev pub OneNumber : List RowChange → Type 0
OneNumber cs = (c d : RowChange) → Contains cs c → Contains cs d → c.id ≡ d.id → c.number ≡ d.number

-- each row could be changed at its number before all of them
abbrev pub MayAll : Tabled → List (Member FileBlocks) → ℕ → ℕ → List RowChange → Type 0
MayAll t members issued tick cs = (c : RowChange) (rows : RowHistory) → Contains cs c → rows_at t.rows c.id ≡ Some rows → MayRecord members issued c.id rows c.number tick

-- so they keep records and index
abbrev pub TurnsRecordsLaw : Type 0
TurnsRecordsLaw = (t : Tabled) (members : List (Member FileBlocks)) (issued tick : ℕ) (cs : List RowChange)
    → CanAll tick cs t → OneNumber cs → MayAll t members issued tick cs → IsRecorded t members issued → IsRecorded (all_changed tick cs t) members issued

-- the index gets at most one entry for each row
abbrev pub TurnsFilledLaw : Type 0
TurnsFilledLaw = (t : Tabled) (tick used : ℕ) (cs : List RowChange) (ids : List InodeId) → CanAll tick cs t → OneNumber cs → ((c : RowChange) → Contains cs c → Contains ids c.id)
    → 0 < tick → used + length ids ≤ 3 → IsFilled t.index tick used → IsFilled (all_changed tick cs t).index tick (used + length ids)
