-- A child list beside the room that it has.
use Rattle.std.specs.Prelude.{◌≡◌, ℕ, zero, suc, ◌<◌, ◌≤◌, List, [], ◌∷◌, length}
use Rattle.std.specs.declared.cmp.Ordering.TheVariants.{Less}
use Rattle.dir_changes.specs.Entries.{Entries, name_order}

-- the entries, and how many more fit without more memory
pub record ChildList : Type 0 where
  pub entries : Entries
  pub room : ℕ

-- the name of entry i
abbrev pub name_at : Entries → ℕ → List ℕ
name_at [] i = []
name_at (entry ∷ entries) zero = entry.0
name_at (entry ∷ entries) (suc i) = name_at entries i

-- every entry before place i has a smaller name
abbrev pub AllBefore : List ℕ → Entries → ℕ → Type 0
AllBefore name entries i = (j : ℕ) → j < i → name_order (name_at entries j) name ≡ Less

-- the name stands at place i
pub record StandsAt (name : List ℕ) (entries : Entries) (i : ℕ) : Type 0 where
  pub within : i < length entries
  pub before : AllBefore name entries i
  pub here : name_at entries i ≡ name

-- the name isn't there, and would stand at place i
pub record BelongsAt (name : List ℕ) (entries : Entries) (i : ℕ) : Type 0 where
  pub within : i ≤ length entries
  pub before : AllBefore name entries i
  pub after : i < length entries → name_order name (name_at entries i) ≡ Less
