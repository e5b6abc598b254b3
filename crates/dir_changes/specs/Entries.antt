-- The entries of a directory: a name and the id of an inode, in the order of the names.
use Rattle.std.specs.Prelude.{ℕ, Bool, false, not, ◌==◌, List, [], ◌∷◌, Option, Some, None, is_some}
use Rattle.std.specs.Ordering.{nat_cmp, eq_by_cmp}
use Rattle.std.specs.declared.cmp.Ordering.{Ordering}
use Rattle.std.specs.Cmp.Lexicographic.{slice_cmp}
use Rattle.std.specs.FinMap.Entries.{find, put, where_key, is_sorted}
use Rattle.hs_types.specs.declared.ids.InodeId.{InodeId}

-- a name and an id
abbrev pub Entry : Type 0
Entry = List ℕ × InodeId

abbrev pub Entries : Type 0
Entries = List Entry

-- names are ordered by their bytes
abbrev pub name_order : List ℕ → List ℕ → Ordering
name_order a b = slice_cmp nat_cmp a b

-- whether the names strictly rise
abbrev pub in_order : Entries → Bool
in_order entries = is_sorted name_order entries

-- the id that stands under a name
abbrev pub id_at : List ℕ → Entries → Option InodeId
id_at name entries = find name_order name entries

-- whether a name stands in the list
abbrev pub has : List ℕ → Entries → Bool
has name entries = is_some (id_at name entries)

-- the list with one entry in its place
abbrev pub with_entry : List ℕ → InodeId → Entries → Entries
with_entry name id entries = put name_order name id entries

-- the list without those names
abbrev pub without : Entries → Entries → Entries
without taken entries = where_key name_order (λ name. not (has name taken)) entries

-- the list without one name
abbrev pub without_name : List ℕ → Entries → Entries
without_name name entries = where_key name_order (λ other. not (eq_by_cmp name_order name other)) entries

-- the entries whose names stand in the first list
abbrev pub among : Entries → Entries → Entries
among names entries = where_key name_order (λ name. has name names) entries

-- the list with each of these entries in its place
abbrev pub with_all : Entries → Entries → Entries
with_all [] entries = entries
with_all (entry ∷ more) entries = with_entry entry.0 entry.1 (with_all more entries)

abbrev pub is_that : InodeId → Option InodeId → Bool
is_that id None = false
is_that id (Some other) = id.0 == other.0

-- whether the list has that name with that id
abbrev pub holds : Entries → Entry → Bool
holds entries entry = is_that entry.1 (id_at entry.0 entries)

-- whether the list has nothing under the name of that entry
abbrev pub lacks : Entries → Entry → Bool
lacks entries entry = not (has entry.0 entries)
