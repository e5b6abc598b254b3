-- The index: which rows were made, or got a record, at which tick.
use Rattle.std.specs.Prelude.{ℕ, Bool, ◌&&◌, nat_lt, nat_le, if◌then◌else◌, List, [], ◌∷◌, map, filter, is_some}
use Rattle.std.specs.List.Sorted.{IsNonDecreasingBy}
use Rattle.hs_types.specs.declared.ids.InodeId.{InodeId}
use Rattle.inode_table.specs.declared.noted.Noted.{Noted}
use Rattle.inode_table.specs.RowHistory.{Table, row_at}

-- by ticks
abbrev pub Index : Type 0
Index = List Noted

abbrev pub IsRising : Index → Type 0
IsRising index = IsNonDecreasingBy (λ entry. entry.tick) index

-- an entry put behind all whose ticks are at most its own
abbrev pub noted : ℕ → InodeId → Index → Index
noted tick id [] = record { tick = tick; id = id } ∷ []
noted tick id (entry ∷ index) = if nat_le entry.tick tick then entry ∷ noted tick id index else record { tick = tick; id = id } ∷ entry ∷ index

abbrev pub is_upto : ℕ → Noted → Bool
is_upto tick entry = nat_le entry.tick tick

-- a tick above one and at most another
abbrev pub is_between : ℕ → ℕ → Noted → Bool
is_between low high entry = nat_lt low entry.tick && nat_le entry.tick high

abbrev pub is_there : Table → Noted → Bool
is_there rows entry = is_some (row_at rows entry.id)

-- the ids of those whose rows are there
abbrev pub ids_there : Table → Index → List InodeId
ids_there rows index = map (λ entry. entry.id) (filter (is_there rows) index)

-- the ids of those at such ticks whose rows are there, in order
abbrev pub made_between : ℕ → ℕ → Table → Index → List InodeId
made_between low high rows index = ids_there rows (filter (is_between low high) index)
