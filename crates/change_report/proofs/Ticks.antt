-- How many rows are looked at for an entry.
use Rattle.std.proofs.Common.{◌≡◌, ℕ, ◌+◌, ◌≤◌, Bool, true, false, cond, List, ◌∷◌, ◌++◌, map, length, length-append, is_some, ◌*◌, Option, Some, None, refl, sym, ap, ◌∙◌, arith}
use Rattle.std.specs.Prelude.{not, ◌&&◌, ◌==◌}
use Rattle.std.specs.Option.{option_eq}
use Rattle.std.proofs.lemmas.Bool.Decides.{nat_tests}
use Rattle.hs_types.specs.declared.ids.InodeId.{InodeId}
use Rattle.dir_changes.specs.Entries.{Entry, Entries, id_at, is_that, holds}
use Rattle.std.proofs.lemmas.List.{length-map}
use Rattle.hs_types.specs.Names.{Names}
use Rattle.dir_changes.specs.History.{children_at}
use Rattle.inode_table.specs.RowHistory.{RowHistory, File, Dir, rows_at, entries_of}
use Rattle.inode_table.specs.Tabled.{Tabled}
use Rattle.path_resolver.specs.Rising.{way_down}
use Rattle.report_laws.specs.Costs.{entries_apart}
use Rattle.report_laws.specs.Differing.{ListEntry}
use Rattle.report_laws.specs.Listed.{only_in, in_dir}
use Rattle.change_report.specs.Found.{paths_of, both_paths}
use Rattle.change_report.specs.Looked.{sides_apart, where_both}
use Rattle.change_report.specs.declared.ends.Ends.{Ends}

pub not-held : (held stands : Bool) → (not held && not stands) ≡ true → held ≡ false
not-held false stands h = refl
not-held true stands h = cc

-- a walk, where the entry isn't held
pub walked : (held : Bool) (old new h : ℕ) → held ≡ false → new ≤ old + (1 + h) → new ≤ old + cond held 0 (1 + h)
walked false old new h none le = le
walked true old new h none le = absurd (cc)

-- and a row more
pub added : (held : Bool) (old mid new h : ℕ) → held ≡ false → mid ≤ old + cond held 0 (1 + h) → new ≤ mid + 1 → new ≤ old + cond held 0 (1 + (1 + h))
added false old mid new h none le one = omega arith
added true old mid new h none le one = absurd (cc)

-- what a list has under a name isn't that inode
pub other-there : (eq : InodeId → InodeId → Bool) → ((a b : InodeId) → eq a b ≡ (a.0 == b.0)) → (same : Bool) (there : Option InodeId) (list : Entries) (name : List ℕ) (id : InodeId) (entry : Entry)
    → same ≡ option_eq eq there (Some id) → same ≡ false → there ≡ id_at name list → (name, id) ≡ entry → holds list entry ≡ false
other-there eq so same there list name id entry is other at named =
    ap (holds list) (sym named) ∙ ap (is_that id) (sym at) ∙ by there (sym is ∙ other)
  where
    by : (o : Option InodeId) → option_eq eq o (Some id) ≡ false → is_that id o ≡ false
    by None h = refl
    by (Some x) h = let apart : (x.0 == id.0) ≡ false = sym (so x id) ∙ h in grind (arith, nat_tests, apart)

-- one entry fewer is left
pub one-fewer : (list rest : Entries) (entry : Entry) (k : ℕ) → length (only_in (entry ∷ rest) list) * k ≡ cond (holds list entry) 0 k + length (only_in rest list) * k
one-fewer list rest entry k = elim (holds list entry) as (λ b. length (cond (not b) (entry ∷ only_in rest list) (only_in rest list)) * k ≡ cond b 0 k + length (only_in rest list) * k) [
  | true ↦ omega arith
  | false ↦ ap (λ n. n * k) {x = length (entry ∷ only_in rest list)} {y = length (only_in rest list) + 1} (omega arith) ∙ more (length (only_in rest list)) k
]
  where
    more : (n k : ℕ) → (n + 1) * k ≡ k + n * k
    more n k = grind arith

-- ---- the lists of a row

both-there : (a b : Option Names) (n : ℕ) → where_both (paths_of a b) n ≡ cond (is_some a && is_some b) n 0
both-there None b n = refl
both-there (Some a) None n = refl
both-there (Some a) (Some b) n = refl

module _ (table : Tabled) (ends : Ends) (id : InodeId) where
  -- those that rows show
  abbrev sides_of : Option RowHistory → List ListEntry
  sides_of rows = map (in_dir id) (only_in (entries_of ends.from.0 rows) (entries_of ends.to.0 rows) ++ only_in (entries_of ends.to.0 rows) (entries_of ends.from.0 rows))

  sides-length : (rows : RowHistory) → length (sides_of (Some rows)) ≡ sides_apart ends rows
  sides-length (File file) = refl
  sides-length (Dir dir) =
      length-map (only_in (children_at ends.from.0 dir) (children_at ends.to.0 dir) ++ only_in (children_at ends.to.0 dir) (children_at ends.from.0 dir)) (in_dir id)
      ∙ length-append (only_in (children_at ends.from.0 dir) (children_at ends.to.0 dir)) (only_in (children_at ends.to.0 dir) (children_at ends.from.0 dir))

  pub apart-so : (rows : RowHistory) → rows_at table.rows id ≡ Some rows → where_both (both_paths table ends id) (sides_apart ends rows) ≡ entries_apart table ends.root ends.from ends.to id
  apart-so rows at =
      both-there (way_down table ends.from.0 ends.root id) (way_down table ends.to.0 ends.root id) (sides_apart ends rows)
      ∙ ap (λ n. cond (is_some (way_down table ends.from.0 ends.root id) && is_some (way_down table ends.to.0 ends.root id)) n 0) (sym (sides-length rows) ∙ ap (λ o. length (sides_of o)) (sym at))

-- ---- sums

scaled_sum : (x y k : ℕ) → (x + y) * k ≡ x * k + y * k
scaled_sum x y k = grind arith

pub one-side : (n x y k old mid : ℕ) → n ≡ x + y → mid ≤ old + x * k → mid ≤ old + n * k
one-side n x y k old mid is le = let e : n * k ≡ x * k + y * k = ap (λ m. m * k) is ∙ scaled_sum x y k in omega (arith, e, le)

pub both-sides : (n x y k old mid new : ℕ) → n ≡ x + y → mid ≤ old + x * k → new ≤ mid + y * k → new ≤ old + n * k
both-sides n x y k old mid new is le one = let e : n * k ≡ x * k + y * k = ap (λ m. m * k) is ∙ scaled_sum x y k in omega (arith, e, le, one)

pub two-walks : (h old mid new : ℕ) → mid ≤ old + (1 + h) → new ≤ mid + (1 + h) → new ≤ old + 2 * (1 + h)
two-walks h old mid new le one = omega (arith, le, one)

pub no-more : (a n old new : ℕ) → new ≤ old + a → new ≤ old + (a + n)
no-more a n old new le = omega (arith, le)

pub and-more : (a n k m old mid new : ℕ) → m ≡ n → mid ≤ old + a → new ≤ mid + n * k → new ≤ old + (a + m * k)
and-more a n k m old mid new is le one = let e : m * k ≡ n * k = ap (λ x. x * k) is in omega (arith, e, le, one)

pub a-row-more : (h n m old mid new : ℕ) → n ≡ m → mid ≤ old + 1 → new ≤ mid + (2 * (1 + h) + n * (1 + (1 + h))) → new ≤ old + (1 + 2 * (1 + h) + m * (1 + (1 + h)))
a-row-more h n m old mid new is le one = let e : n * (1 + (1 + h)) ≡ m * (1 + (1 + h)) = ap (λ x. x * (1 + (1 + h))) is in omega (arith, e, le, one)
