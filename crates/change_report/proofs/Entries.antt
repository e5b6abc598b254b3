-- The entries of a list in order, and what is found under their names.
use Rattle.std.proofs.Common.{◌≡◌, inl, inr, ℕ, Bool, true, false, cond, List, [], ◌∷◌, Some, refl, sym, ap, subst, ◌∙◌}
use Rattle.std.specs.Cmp.Lexicographic.{nat_list_cmp_total}
use Rattle.std.specs.FinMap.Entries.{below_all}
use Rattle.std.specs.Ordering.{is_lt, is_eq, eq_by_cmp, ordering_reverse}
use Rattle.std.specs.declared.cmp.Ordering.{Ordering}
use Rattle.std.specs.declared.cmp.Ordering.TheVariants.{Less, Equal, Greater}
use Rattle.hs_types.specs.declared.ids.InodeId.{InodeId}
use Rattle.hs_plain.proofs.ValidLists.{In, false_by}
use Rattle.hs_plain.proofs.ValidShapes.{none_some, same_some, true_false}
use Rattle.hs_plain.proofs.ValidTrees.{first, second}
use Rattle.dir_changes.specs.Entries.{Entry, Entries, name_order, id_at, in_order}
use Rattle.dir_changes.proofs.UndoLaw.{names_exact}

is_equal : (o : Ordering) → is_eq o ≡ true → o ≡ Equal
is_equal Less h = absurd (cc)
is_equal Equal h = refl
is_equal Greater h = absurd (cc)

itself : (name : List ℕ) → name_order name name ≡ Equal
itself name = by (name_order name name) (nat_list_cmp_total.antisymm name name)
  where
    by : (o : Ordering) → o ≡ ordering_reverse o → o ≡ Equal
    by Less e = absurd (cc)
    by Equal e = refl
    by Greater e = absurd (cc)

pub found-in : (name : List ℕ) (entries : Entries) (id : InodeId) → id_at name entries ≡ Some id → In entries (name, id)
found-in name [] id h = absurd (none_some h)
found-in name (e ∷ es) id h = by (eq_by_cmp name_order name e.0) refl h (found-in name es id)
  where
    by : (b : Bool) → eq_by_cmp name_order name e.0 ≡ b → cond b (Some e.1) (id_at name es) ≡ Some id → (id_at name es ≡ Some id → In es (name, id)) → In (e ∷ es) (name, id)
    by true t found later = let same : name ≡ e.0 = names_exact name e.0 (is_equal _ t) in inl (λ i. (sym same i, same_some found i))
    by false t found later = inr (later found)

below-all : (name : List ℕ) (entries : Entries) → below_all name_order name entries ≡ true → (e : Entry) → In entries e → is_lt (name_order name e.0) ≡ true
below-all name [] h e at = absurd at
below-all name (d ∷ es) h e (inl same) = ap (λ (x : Entry). is_lt (name_order name x.0)) (sym same) ∙ first (is_lt (name_order name d.0)) _ h
below-all name (d ∷ es) h e (inr at) = below-all name es (second (is_lt (name_order name d.0)) _ h) e at

pub in-found : (entries : Entries) → in_order entries ≡ true → (e : Entry) → In entries e → id_at e.0 entries ≡ Some e.1
in-found [] order e at = absurd at
in-found (d ∷ es) order e (inl same) =
    subst (λ (x : Entry). id_at x.0 (d ∷ es) ≡ Some x.1) same (ap (λ o. cond (is_eq o) (Some d.1) (id_at d.0 es)) (itself d.0))
in-found (d ∷ es) order e (inr at) =
    ap (λ b. cond b (Some d.1) (id_at e.0 es)) (false_by (eq_by_cmp name_order e.0 d.0) (λ t. apart (names_exact e.0 d.0 (is_equal _ t))))
    ∙ in-found es (second (below_all name_order d.0 es) _ order) e at
  where
    apart : e.0 ≡ d.0 → ⊥
    apart same = true_false (below-all d.0 es (first (below_all name_order d.0 es) _ order) e at) (ap (λ n. is_lt (name_order d.0 n)) same ∙ ap is_lt (itself d.0))
