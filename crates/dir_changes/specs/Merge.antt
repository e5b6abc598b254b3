-- A list in order, cut at a name.
use Rattle.std.specs.Prelude.{ℕ, List, [], ◌∷◌}
use Rattle.std.specs.FinMap.Entries.{by_order}
use Rattle.dir_changes.specs.Entries.{Entries, name_order}

-- the entries at the front whose names are smaller
abbrev pub smaller : List ℕ → Entries → Entries
smaller name [] = []
smaller name (entry ∷ entries) = by_order (name_order entry.0 name) (entry ∷ smaller name entries) [] []

-- what follows them, without an entry of that very name
abbrev pub greater : List ℕ → Entries → Entries
greater name [] = []
greater name (entry ∷ entries) = by_order (name_order entry.0 name) (greater name entries) entries (entry ∷ entries)
