-- How often rows are named, before and after a recount.
use Rattle.std.specs.Prelude.{◌≡◌, ℕ, ◌+◌, ◌^◌, ◌<◌, ◌≤◌, length, Option, Some, None}
use Rattle.hs_types.specs.declared.ids.InodeId.{InodeId}
use Rattle.dir_changes.specs.Counts.{one_where, same_id, times}
use Rattle.inode_table.specs.declared.change.Change.{Change}
use Rattle.inode_table.specs.declared.change.Change.TheVariants as changes
use Rattle.inode_table.specs.declared.change.Recount.{Recount}
use Rattle.inode_table.specs.declared.change.Recount.TheVariants as recounts
use Rattle.inode_table.specs.declared.row.Row.{Row}
use Rattle.inode_table.specs.Numbered.{at_place, history_of}
use Rattle.inode_table.specs.Names.{named_in, times_named}
use Rattle.inode_table.specs.RowHistory.{RowHistory}
use Rattle.inode_table.specs.Kept.{AreSound, FitsRows}
use Rattle.inode_table.specs.Tabled.{begun_rows, changed_rows, recount_of}
use Rattle.inode_table.specs.Totals.{records_in, entries_of}
use Rattle.inode_table.specs.Slots.{Slots, table_in}

abbrev pub more_of : Recount → InodeId → ℕ
more_of recounts.Same x = 0
more_of (recounts.More id) x = one_where (same_id id x)
more_of (recounts.Less id) x = 0

abbrev pub less_of : Recount → InodeId → ℕ
less_of recounts.Same x = 0
less_of (recounts.More id) x = 0
less_of (recounts.Less id) x = one_where (same_id id x)

-- private: the rows' counts are true once that one is mended
pub record AreOff (rows : Slots) (recount : Recount) : Type 0 where
  pub counted : (id : InodeId) (row : Row) → at_place rows id ≡ Some row → row.names + more_of recount id ≡ times_named id (table_in rows) + less_of recount id
  pub there : (id : InodeId) → 0 < times_named id (table_in rows) → (row : Row) × (at_place rows id ≡ Some row)
  pub target : (id : InodeId) → 0 < more_of recount id + less_of recount id → (row : Row) × (at_place rows id ≡ Some row)

-- private: a row named once more can count it
pub record AreSmall (rows : Slots) (recount : Recount) : Type 0 where
  pub small : (id : InodeId) (row : Row) → at_place rows id ≡ Some row → 0 < more_of recount id → row.names + 1 < 2 ^ 32

-- private: a row is there, and the change fits it
abbrev pub FitsSlot : Change → Option Row → Type 0
FitsSlot what None = ⊥
FitsSlot what (Some row) = FitsRows what (history_of row.rows)

abbrev pub IsSoundSlot : Option Row → Type 0
IsSoundSlot None = Unit {0}
IsSoundSlot (Some row) = AreSound (history_of row.rows)

-- private: how many blocks a file's current state names after a change, by how many it named before
abbrev pub blocks_edited : Change → ℕ → ℕ
blocks_edited (changes.Mode mode) own = own
blocks_edited (changes.Body size blocks) own = length blocks
blocks_edited (changes.Add name id) own = own
blocks_edited (changes.Remove name) own = own
blocks_edited (changes.Move spot) own = own

-- a change of a row names each id as often as its recount says
abbrev pub ChangedNamedLaw : Type 0
ChangedNamedLaw = (cover tick : ℕ) (what : Change) (rows : RowHistory) → AreSound rows → FitsRows what rows → (x : InodeId)
    → times x (named_in (changed_rows cover tick what rows)) + less_of (recount_of what (begun_rows cover rows)) x ≡ times x (named_in rows) + more_of (recount_of what (begun_rows cover rows)) x

-- and adds at most a record and two entries
abbrev pub ChangedWeightLaw : Type 0
ChangedWeightLaw = (cover tick : ℕ) (what : Change) (rows : RowHistory) → AreSound rows → FitsRows what rows
    → records_in (changed_rows cover tick what rows) + entries_of (changed_rows cover tick what rows) ≤ records_in rows + entries_of rows + 3
