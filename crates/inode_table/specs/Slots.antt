-- Private: rows at their places, and the plain table that they stand for.
use Rattle.std.specs.Prelude.{◌≡◌, ◌≢◌, ℕ, ◌+◌, ◌<◌, List, [], ◌∷◌, Option, Some, None, nat_lt}
use Rattle.std.specs.List.{Contains}
use Rattle.hs_types.specs.declared.ids.InodeId.{InodeId}
use Rattle.dir_changes.specs.Counts.{one_where, times}
use Rattle.inode_table.specs.declared.row.Row.{Row}
use Rattle.inode_table.specs.RowHistory.{Table}
use Rattle.inode_table.specs.Stands.{root_id}
use Rattle.inode_table.specs.Names.{times_named}
use Rattle.inode_table.specs.Numbered.{numbered, at_place, table_of}

abbrev pub Slots : Type 0
Slots = List (Option Row)

-- the plain table of these places
abbrev pub table_in : Slots → Table
table_in rows = table_of (numbered 0 rows)

abbrev pub is_named : Option Row → ℕ
is_named None = 0
is_named (Some row) = one_where (nat_lt 0 row.names)

-- how many rows are named
abbrev pub named_rows : Slots → ℕ
named_rows [] = 0
named_rows (slot ∷ rows) = is_named slot + named_rows rows

-- each row counts how often lists name it, and these ids with them; and each id that is named has a row
pub record AreCounted (rows : Slots) (more : List InodeId) : Type 0 where
  pub counted : (id : InodeId) (row : Row) → at_place rows id ≡ Some row → row.names ≡ times_named id (table_in rows) + times id more
  pub there : (id : InodeId) → 0 < times_named id (table_in rows) + times id more → (row : Row) × (at_place rows id ≡ Some row)

-- each row but the root that isn't named is in the list, but for one perhaps
abbrev pub AreListedBut : InodeId → Slots → List InodeId → Type 0
AreListedBut but rows unnamed = (id : InodeId) (row : Row) → at_place rows id ≡ Some row → id ≢ root_id → id ≢ but → row.names ≡ 0 → Contains unnamed id

abbrev pub AreListed : Slots → List InodeId → Type 0
AreListed rows unnamed = (id : InodeId) (row : Row) → at_place rows id ≡ Some row → id ≢ root_id → row.names ≡ 0 → Contains unnamed id
