-- Ids between two bounds.
use Rattle.std.proofs.Common.{◌≡◌, Bool, true, false, List, [], ◌∷◌, Option, None, Some, is_some, inl, inr, Ordering, refl, sym, ap, ◌∙◌, arith}
use Rattle.std.specs.Map.Iter.{TakesFirst}
use Rattle.std.specs.Ordering.{nat_cmp, is_ge}
use Rattle.std.specs.BTreeMap.Range.{range_contains, entries_between}
use Rattle.std.specs.declared.ops.Bound.TheVariants.{Included, Excluded}
use Rattle.std.proofs.lemmas.Bool.{cases_Bool}
use Rattle.std.proofs.lemmas.Bool.Decides.{nat_tests}
use Rattle.hs_types.specs.declared.ids.InodeId.{InodeId}
use Rattle.hs_types.specs.declared.ids.SnapId.{SnapId}
use Rattle.snapshot_manager.specs.Owners.{any_between}
use Rattle.snapshot_manager.specs.Snapshots.{is_between}
use Rattle.snapshot_manager.specs.Places.{NonePasses}
use Rattle.snapshot_manager.proofs.Lists.{any_nowhere}

-- no id lies above low and at most at high, where low isn't below high
not_between : (low high id : SnapId) → is_ge (nat_cmp low.0 high.0) ≡ true → is_between low high id ≡ false
not_between low high id above = grind (arith, nat_tests)

none_between : (low high : SnapId) (owners : List (SnapId × InodeId)) → is_ge (nat_cmp low.0 high.0) ≡ true → NonePasses (λ e. is_between low high e.0) owners
none_between low high [] above = tt
none_between low high (e ∷ es) above = (not_between low high e.0 above, none_between low high es above)

pub any_between-none : (low high : SnapId) (owners : List (SnapId × InodeId)) → is_ge (nat_cmp low.0 high.0) ≡ true → any_between low high owners ≡ false
any_between-none low high owners above = any_nowhere (λ e. is_between low high e.0) owners (none_between low high owners above)

abbrev pub id_cmp : SnapId → SnapId → Ordering
id_cmp a b = nat_cmp a.0 b.0

-- the list has an element
abbrev pub is_cons : {X : Type 0} → List X → Bool
is_cons [] = false
is_cons (x ∷ xs) = true

in_range_is_between : (low high id : SnapId) → range_contains id_cmp (Excluded low) (Included high) id ≡ is_between low high id
in_range_is_between low high id = grind (arith, nat_tests)

is_cons-range : (low high : SnapId) (es : List (SnapId × InodeId)) → is_cons (entries_between id_cmp (Excluded low) (Included high) es) ≡ any_between low high es
is_cons-range low high [] = refl
is_cons-range low high (e ∷ es) = elim (cases_Bool (is_between low high e.0)) [
  | inl there ↦ rw (in_range_is_between low high e.0, there) refl
  | inr apart ↦ rw (in_range_is_between low high e.0, apart) (is_cons-range low high es)
]

is_some-taken : {A X : Type 0} (shows : A → X) (s t : List X) (r : Option A) → TakesFirst shows s r t → is_some r ≡ is_cons s
is_some-taken shows s t None taken = sym (ap is_cons taken.0)
is_some-taken shows s t (Some x) taken = sym (ap is_cons taken)

-- a walk of the range finds something exactly where an id lies in it
pub any_between-walked : {A : Type 0} (shows : A → SnapId × InodeId) (low high : SnapId) (es range rest : List (SnapId × InodeId)) (r : Option A) → range ≡ entries_between id_cmp (Excluded low) (Included high) es → TakesFirst shows range r rest → is_some r ≡ any_between low high es
any_between-walked shows low high es range rest r range_is taken = is_some-taken shows range rest r taken ∙ ap is_cons range_is ∙ is_cons-range low high es
