-- What a place in a list in order says of look-ups, and what an edit at it makes.
use Rattle.std.proofs.Common.{◌≡◌, ℕ, zero, suc, ◌<◌, true, false, cond, List, [], ◌∷◌, length, get_or, set, Some, None, refl, ap, subst, ◌∙◌, arith}
use Rattle.std.specs.Prelude.{not, IsTrue, remove, insert}
use Rattle.std.specs.Ordering.{is_lt, is_eq, eq_by_cmp, ordering_reverse}
use Rattle.std.specs.declared.cmp.Ordering.{Ordering}
use Rattle.std.specs.declared.cmp.Ordering.TheVariants.{Less, Equal, Greater}
use Rattle.std.specs.Cmp.{tied_itself}
use Rattle.std.specs.Cmp.Lexicographic.{nat_list_cmp_total}
use Rattle.std.specs.FinMap.Entries.{below_all, by_order}
use Rattle.hs_types.specs.declared.ids.InodeId.{InodeId}
use Rattle.dir_changes.specs.Entries.{Entry, Entries, name_order, in_order, id_at, with_entry, without_name}
use Rattle.dir_changes.specs.Children.{name_at, StandsAt, BelongsAt}
use Rattle.dir_changes.proofs.UndoLaw.{both, first, second}

pub is_less : (r : Ordering) → IsTrue (is_lt r) → r ≡ Less
is_less Less h = refl
is_less Equal h = cc
is_less Greater h = cc

pub less_trans : (a b c : List ℕ) → name_order a b ≡ Less → name_order b c ≡ Less → name_order a c ≡ Less
less_trans a b c = nat_list_cmp_total.trans a b c

pub turned : (a b : List ℕ) → name_order a b ≡ Less → name_order b a ≡ Greater
turned a b h = nat_list_cmp_total.antisymm b a ∙ ap ordering_reverse h

pub turned_back : (a b : List ℕ) → name_order a b ≡ Greater → name_order b a ≡ Less
turned_back a b h = nat_list_cmp_total.antisymm b a ∙ ap ordering_reverse h

-- each name of a list in order is below the later ones
above_head : (name : List ℕ) (es : Entries) (j : ℕ) → IsTrue (below_all name_order name es) → j < length es → name_order name (name_at es j) ≡ Less
above_head name [] j h lt = absurd (omega arith)
above_head name (e ∷ es) zero h lt = is_less _ (first (is_lt (name_order name e.0)) _ h)
above_head name (e ∷ es) (suc j) h lt = above_head name es j (second (is_lt (name_order name e.0)) _ h) (omega arith)

pub names_rise : (es : Entries) (i j : ℕ) → IsTrue (in_order es) → i < j → j < length es → name_order (name_at es i) (name_at es j) ≡ Less
names_rise [] i j sorted lt within = absurd (omega arith)
names_rise (e ∷ es) i zero sorted lt within = absurd (omega arith)
names_rise (e ∷ es) zero (suc j) sorted lt within = above_head e.0 es j (first (below_all name_order e.0 es) _ sorted) (omega arith)
names_rise (e ∷ es) (suc i) (suc j) sorted lt within = names_rise es i j (second (below_all name_order e.0 es) _ sorted) (omega arith) (omega arith)

pub name_at-get_or : (es : Entries) (i : ℕ) (d : Entry) → i < length es → (get_or es i d).0 ≡ name_at es i
name_at-get_or [] i d lt = absurd (omega arith)
name_at-get_or (e ∷ es) zero d lt = refl
name_at-get_or (e ∷ es) (suc i) d lt = name_at-get_or es i d (omega arith)

-- ---- where the name stands

pub tie : (name : List ℕ) → name_order name name ≡ Equal
tie name = tied_itself nat_list_cmp_total name

pub id_at-stands : (name : List ℕ) (es : Entries) (i : ℕ) (d : Entry) → StandsAt name es i → id_at name es ≡ Some (get_or es i d).1
id_at-stands name [] i d at = absurd (omega (arith, at.within))
id_at-stands name (e ∷ es) zero d at = ap (λ r. cond (is_eq r) (Some e.1) (id_at name es)) (ap (λ n. name_order name n) at.here ∙ tie name)
id_at-stands name (e ∷ es) (suc i) d at =
    ap (λ r. cond (is_eq r) (Some e.1) (id_at name es)) (turned e.0 name (at.before 0 (omega arith)))
    ∙ id_at-stands name es i d (record { within = omega (arith, at.within); before = λ j lt. at.before (suc j) (omega arith); here = at.here })

-- none of the later entries has that name
kept_above : (name : List ℕ) (es : Entries) → IsTrue (below_all name_order name es) → without_name name es ≡ es
kept_above name [] h = refl
kept_above name (e ∷ es) h =
    ap (λ r. cond (not (is_eq r)) (e ∷ without_name name es) (without_name name es)) (is_less _ (first (is_lt (name_order name e.0)) _ h))
    ∙ ap (λ l. e ∷ l) (kept_above name es (second (is_lt (name_order name e.0)) _ h))

pub without_name-stands : (name : List ℕ) (es : Entries) (i : ℕ) → IsTrue (in_order es) → StandsAt name es i → without_name name es ≡ remove es i
without_name-stands name [] i sorted at = absurd (omega (arith, at.within))
without_name-stands name (e ∷ es) zero sorted at =
    ap (λ r. cond (not (is_eq r)) (e ∷ without_name name es) (without_name name es)) (ap (λ n. name_order name n) at.here ∙ tie name)
    ∙ kept_above name es (subst (λ (n : List ℕ). IsTrue (below_all name_order n es)) at.here (first (below_all name_order e.0 es) _ sorted))
without_name-stands name (e ∷ es) (suc i) sorted at =
    ap (λ r. cond (not (is_eq r)) (e ∷ without_name name es) (without_name name es)) (turned e.0 name (at.before 0 (omega arith)))
    ∙ ap (λ l. e ∷ l) (without_name-stands name es i (second (below_all name_order e.0 es) _ sorted) (record { within = omega (arith, at.within); before = λ j lt. at.before (suc j) (omega arith); here = at.here }))

-- ---- where the name would stand

pub with_entry-belongs : (name : List ℕ) (id : InodeId) (es : Entries) (i : ℕ) → BelongsAt name es i → with_entry name id es ≡ insert es i (name, id)
with_entry-belongs name id [] zero at = refl
with_entry-belongs name id [] (suc i) at = absurd (omega (arith, at.within))
with_entry-belongs name id (e ∷ es) zero at = ap (λ r. by_order r ((name, id) ∷ e ∷ es) ((e.0, id) ∷ es) (e ∷ with_entry name id es)) (at.after (omega arith))
with_entry-belongs name id (e ∷ es) (suc i) at =
    ap (λ r. by_order r ((name, id) ∷ e ∷ es) ((e.0, id) ∷ es) (e ∷ with_entry name id es)) (turned e.0 name (at.before 0 (omega arith)))
    ∙ ap (λ l. e ∷ l) (with_entry-belongs name id es i (record { within = omega (arith, at.within); before = λ j lt. at.before (suc j) (omega arith); after = λ lt. at.after (omega arith) }))

-- a name below each of a list isn't there
pub absent_below : (name : List ℕ) (es : Entries) → IsTrue (below_all name_order name es) → id_at name es ≡ None
absent_below name [] h = refl
absent_below name (e ∷ es) h =
    ap (λ r. cond (is_eq r) (Some e.1) (id_at name es)) (is_less _ (first (is_lt (name_order name e.0)) _ h)) ∙ absent_below name es (second (is_lt (name_order name e.0)) _ h)

pub below_from : (name other : List ℕ) (es : Entries) → name_order name other ≡ Less → IsTrue (below_all name_order other es) → IsTrue (below_all name_order name es)
below_from name other [] lt h = refl
below_from name other (e ∷ es) lt h = both _ _ (ap is_lt (less_trans name other e.0 lt (is_less _ (first (is_lt (name_order other e.0)) _ h)))) (below_from name other es lt (second (is_lt (name_order other e.0)) _ h))

pub id_at-belongs : (name : List ℕ) (es : Entries) (i : ℕ) → IsTrue (in_order es) → BelongsAt name es i → id_at name es ≡ None
id_at-belongs name [] i sorted at = refl
id_at-belongs name (e ∷ es) zero sorted at =
    let lt = at.after (omega arith) in
    absent_below name (e ∷ es) (both _ _ (ap is_lt lt) (below_from name e.0 es lt (first (below_all name_order e.0 es) _ sorted)))
id_at-belongs name (e ∷ es) (suc i) sorted at =
    ap (λ r. cond (is_eq r) (Some e.1) (id_at name es)) (turned e.0 name (at.before 0 (omega arith)))
    ∙ id_at-belongs name es i (second (below_all name_order e.0 es) _ sorted) (record { within = omega (arith, at.within); before = λ j lt. at.before (suc j) (omega arith); after = λ lt. at.after (omega arith) })

pub without_name-absent : (name : List ℕ) (es : Entries) → id_at name es ≡ None → without_name name es ≡ es
without_name-absent name [] h = refl
without_name-absent name (e ∷ es) h =
    elim (eq_by_cmp name_order name e.0) as (λ b. cond b (Some e.1) (id_at name es) ≡ None → cond (not b) (e ∷ without_name name es) (without_name name es) ≡ e ∷ es) [
      | true ↦ λ is. absurd (some_none is)
      | false ↦ λ is. ap (λ l. e ∷ l) (without_name-absent name es is)
    ] h
  where
    some_none : {x : InodeId} → Some x ≡ None → ⊥
    some_none h = cc

-- an entry makes way for another one of its name
pub with_entry-stands : (name : List ℕ) (id : InodeId) (es : Entries) (i : ℕ) → StandsAt name es i → with_entry name id es ≡ set es i (name, id)
with_entry-stands name id [] i at = absurd (omega (arith, at.within))
with_entry-stands name id (e ∷ es) zero at =
    ap (λ r. by_order r ((name, id) ∷ e ∷ es) ((e.0, id) ∷ es) (e ∷ with_entry name id es)) (ap (λ n. name_order name n) at.here ∙ tie name) ∙ ap (λ n. (n, id) ∷ es) at.here
with_entry-stands name id (e ∷ es) (suc i) at =
    ap (λ r. by_order r ((name, id) ∷ e ∷ es) ((e.0, id) ∷ es) (e ∷ with_entry name id es)) (turned e.0 name (at.before 0 (omega arith)))
    ∙ ap (λ l. e ∷ l) (with_entry-stands name id es i (record { within = omega (arith, at.within); before = λ j lt. at.before (suc j) (omega arith); here = at.here }))
