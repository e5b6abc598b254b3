-- Two lists in order, put together from the front.
use Rattle.std.proofs.Common.{◌≡◌, ℕ, Bool, List, [], ◌∷◌, ◌++◌, refl, sym, ap, subst, ◌∙◌}
use Rattle.std.specs.Prelude.{IsTrue}
use Rattle.std.specs.Ordering.{is_lt}
use Rattle.std.specs.declared.cmp.Ordering.TheVariants.{Less, Equal, Greater}
use Rattle.std.specs.FinMap.Entries.{below_all, by_order}
use Rattle.hs_types.specs.declared.ids.InodeId.{InodeId}
use Rattle.dir_changes.specs.Entries.{Entry, Entries, name_order, in_order, with_entry, with_all}
use Rattle.dir_changes.specs.Merge.{smaller, greater}
use Rattle.dir_changes.proofs.UndoLaw.{names_exact, both, first, second}
use Rattle.dir_changes.proofs.PlaceLaws.{is_less, turned, turned_back, below_from, tie}

abbrev below : List ℕ → Entries → Bool
below name es = below_all name_order name es

with_entry-below : (name : List ℕ) (id : InodeId) (es : Entries) → IsTrue (below name es) → with_entry name id es ≡ (name, id) ∷ es
with_entry-below name id [] h = refl
with_entry-below name id (e ∷ es) h =
    ap (λ r. by_order r ((name, id) ∷ e ∷ es) ((e.0, id) ∷ es) (e ∷ with_entry name id es)) (is_less _ (first (is_lt (name_order name e.0)) _ h))

below-with_entry : (name other : List ℕ) (id : InodeId) (es : Entries) → name_order name other ≡ Less → IsTrue (below name es) → IsTrue (below name (with_entry other id es))
below-with_entry name other id [] lt h = both _ _ (ap is_lt lt) refl
below-with_entry name other id (e ∷ es) lt h =
    elim (name_order other e.0) as (λ o. IsTrue (below name (by_order o ((other, id) ∷ e ∷ es) ((e.0, id) ∷ es) (e ∷ with_entry other id es)))) [
      | Less ↦ both _ _ (ap is_lt lt) h
      | Equal ↦ h
      | Greater ↦ both _ _ (first (is_lt (name_order name e.0)) _ h) (below-with_entry name other id es lt (second (is_lt (name_order name e.0)) _ h))
    ]

below-with_all : (name : List ℕ) (more es : Entries) → IsTrue (below name more) → IsTrue (below name es) → IsTrue (below name (with_all more es))
below-with_all name [] es these h = h
below-with_all name (e ∷ more) es these h =
    below-with_entry name e.0 e.1 (with_all more es) (is_less _ (first (is_lt (name_order name e.0)) _ these)) (below-with_all name more es (second (is_lt (name_order name e.0)) _ these) h)

-- an entry below all of the others stays in front
with_all-cons : (e : Entry) (more es : Entries) → IsTrue (below e.0 more) → with_all more (e ∷ es) ≡ e ∷ with_all more es
with_all-cons e [] es h = refl
with_all-cons e (f ∷ more) es h =
    ap (with_entry f.0 f.1) (with_all-cons e more es (second (is_lt (name_order e.0 f.0)) _ h))
    ∙ ap (λ r. by_order r ((f.0, f.1) ∷ e ∷ with_all more es) ((e.0, f.1) ∷ with_all more es) (e ∷ with_entry f.0 f.1 (with_all more es))) (turned e.0 f.0 (is_less _ (first (is_lt (name_order e.0 f.0)) _ h)))

-- one entry goes behind those with smaller names, in place of one with its name
pub with_all-step : (e : Entry) (more es : Entries) → IsTrue (in_order (e ∷ more)) → IsTrue (in_order es) → with_all (e ∷ more) es ≡ smaller e.0 es ++ (e ∷ with_all more (greater e.0 es))
with_all-step e more [] these sorted = with_entry-below e.0 e.1 (with_all more []) (below-with_all e.0 more [] (first (below e.0 more) _ these) refl)
with_all-step e more (x ∷ es) these sorted =
    let above : IsTrue (below e.0 more) = first (below e.0 more) _ these in
    let rest : IsTrue (in_order es) = second (below x.0 es) _ sorted in
    let later : with_all (e ∷ more) es ≡ smaller e.0 es ++ (e ∷ with_all more (greater e.0 es)) = with_all-step e more es these rest in
    elim (name_order x.0 e.0) as (λ o. name_order x.0 e.0 ≡ o → with_all (e ∷ more) (x ∷ es) ≡ by_order o (x ∷ smaller e.0 es) [] [] ++ (e ∷ with_all more (by_order o (greater e.0 es) es (x ∷ es)))) [
      | Less ↦ λ is. with_all-cons x (e ∷ more) es (both _ _ (ap is_lt is) (below_from x.0 e.0 more is above)) ∙ ap (λ l. x ∷ l) later
      | Equal ↦ λ is.
          let same : x.0 ≡ e.0 = names_exact x.0 e.0 is in
          ap (with_entry e.0 e.1) (with_all-cons x more es (subst (λ (n : List ℕ). IsTrue (below n more)) (sym same) above))
          ∙ ap (λ r. by_order r ((e.0, e.1) ∷ x ∷ with_all more es) ((x.0, e.1) ∷ with_all more es) (x ∷ with_entry e.0 e.1 (with_all more es))) (ap (name_order e.0) same ∙ tie e.0)
          ∙ ap (λ n. (n, e.1) ∷ with_all more es) same
      | Greater ↦ λ is.
          let lt = turned_back x.0 e.0 is in
          with_entry-below e.0 e.1 (with_all more (x ∷ es)) (below-with_all e.0 more (x ∷ es) above (both _ _ (ap is_lt lt) (below_from e.0 x.0 es lt (first (below x.0 es) _ sorted))))
    ] refl

pub in_order-tail : (e : Entry) (es : Entries) → IsTrue (in_order (e ∷ es)) → IsTrue (in_order es)
in_order-tail e es h = second (below e.0 es) _ h

pub in_order-greater : (name : List ℕ) (es : Entries) → IsTrue (in_order es) → IsTrue (in_order (greater name es))
in_order-greater name [] h = h
in_order-greater name (e ∷ es) h =
    let rest = in_order-tail e es h in
    elim (name_order e.0 name) as (λ o. IsTrue (in_order (by_order o (greater name es) es (e ∷ es)))) [
      | Less ↦ in_order-greater name es rest
      | Equal ↦ rest
      | Greater ↦ h
    ]
