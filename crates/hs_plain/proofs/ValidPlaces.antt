-- What holds of each place of a tree in order, and what holds of each node that a path leads to.
use Rattle.std.proofs.Common.{◌≡◌, ℕ, Bool, true, false, cond, [], ◌∷◌, map, Some, None, refl, sym, ap, ◌∙◌}
use Rattle.std.specs.Prelude.{not, ◌==◌}
use Rattle.std.specs.List.{list_all, list_any}
use Rattle.std.specs.Ordering.{is_lt, is_eq, eq_by_cmp}
use Rattle.std.specs.declared.cmp.Ordering.{Ordering}
use Rattle.std.specs.declared.cmp.Ordering.TheVariants.{Less, Equal, Greater}
use Rattle.std.specs.FinMap.Entries.{is_sorted, below_all}
use Rattle.std.proofs.lemmas.Bool.Decides.{Decides-eqb}
use Rattle.hs_types.specs.Names.{Names}
use Rattle.hs_plain.specs.declared.state.Node.{Node}
use Rattle.hs_plain.specs.Tree.{Tree, path_cmp, node_at}
use Rattle.hs_plain.specs.Valid.{all_differ}
use Rattle.hs_plain.proofs.ValidTrees.{both, first, second}
use Rattle.hs_plain.proofs.ValidLists.{neither, neither_first, neither_second, not_so}
use Rattle.hs_plain.proofs.ValidShapes.{same_so, same-itself, none_some, same_some, true_false}

-- ---- tests

not_equal : (r : Ordering) → is_lt r ≡ true → is_eq r ≡ false
not_equal Less h = refl
not_equal Equal h = cc
not_equal Greater h = cc

-- ---- places

module _ {B : Type 0} where
  pub missing_below : (path : Names) (tree : Tree B) → below_all path_cmp path tree ≡ true → node_at tree path ≡ None
  missing_below path [] h = refl
  missing_below path (e ∷ es) h =
      ap (λ b. cond b (Some e.1) (node_at es path)) (not_equal _ (first (is_lt (path_cmp path e.0)) _ h)) ∙ missing_below path es (second (is_lt (path_cmp path e.0)) _ h)

  pub head_at : (e : Names × Node B) (es : Tree B) → node_at (e ∷ es) e.0 ≡ Some e.1
  head_at e es = ap (λ b. cond b (Some e.1) (node_at es e.0)) (same-itself e.0)

  pub in_tail : (e : Names × Node B) (es : Tree B) (q : Names) (n : Node B) → below_all path_cmp e.0 es ≡ true → node_at es q ≡ Some n → node_at (e ∷ es) q ≡ Some n
  in_tail e es q n h at = elim (eq_by_cmp path_cmp q e.0) as (λ b. eq_by_cmp path_cmp q e.0 ≡ b → cond b (Some e.1) (node_at es q) ≡ Some n) [
    | true ↦ λ t. absurd (none_some (sym (missing_below e.0 es h) ∙ ap (node_at es) (sym (same_so t)) ∙ at))
    | false ↦ λ t. at
  ] refl

  -- a node is at the first place, or in the rest
  pub by_place : {P : Type 0} (e : Names × Node B) (es : Tree B) (q : Names) (n : Node B) → node_at (e ∷ es) q ≡ Some n → (q ≡ e.0 → n ≡ e.1 → P) → (node_at es q ≡ Some n → P) → P
  by_place {P} e es q n at head tail = elim (eq_by_cmp path_cmp q e.0) as (λ b. eq_by_cmp path_cmp q e.0 ≡ b → cond b (Some e.1) (node_at es q) ≡ Some n → P) [
    | true ↦ λ t at. head (same_so t) (sym (same_some at))
    | false ↦ λ t at. tail at
  ] refl at

  pub all_places : (test : Names × Node B → Bool) (tree : Tree B) → is_sorted path_cmp tree ≡ true → ((q : Names) (n : Node B) → node_at tree q ≡ Some n → test (q, n) ≡ true) → list_all test tree ≡ true
  all_places test [] h all = refl
  all_places test (e ∷ es) h all =
      both (all e.0 e.1 (head_at e es)) (all_places test es (second (below_all path_cmp e.0 es) _ h) (λ q n at. all q n (in_tail e es q n (first (below_all path_cmp e.0 es) _ h) at)))

  pub place_passes : (test : Names × Node B → Bool) (tree : Tree B) → list_all test tree ≡ true → (q : Names) (n : Node B) → node_at tree q ≡ Some n → test (q, n) ≡ true
  place_passes test [] all q n at = absurd (none_some at)
  place_passes test (e ∷ es) all q n at = by_place e es q n at (λ p m. (λ i. test (p i, m i)) ∙ first (test e) _ all) (λ at. place_passes test es (second (test e) _ all) q n at)

  module _ {Y : Type 0} (f : Names × Node B → Y) (test : Y → Bool) where
    pub any_fails : (tree : Tree B) → is_sorted path_cmp tree ≡ true → ((q : Names) (n : Node B) → node_at tree q ≡ Some n → test (f (q, n)) ≡ false) → list_any test (map f tree) ≡ false
    any_fails [] h none = refl
    any_fails (e ∷ es) h none =
        neither (none e.0 e.1 (head_at e es)) (any_fails es (second (below_all path_cmp e.0 es) _ h) (λ q n at. none q n (in_tail e es q n (first (below_all path_cmp e.0 es) _ h) at)))

    pub place_fails : (tree : Tree B) → list_any test (map f tree) ≡ false → (q : Names) (n : Node B) → node_at tree q ≡ Some n → test (f (q, n)) ≡ false
    place_fails [] none q n at = absurd (none_some at)
    place_fails (e ∷ es) none q n at = by_place e es q n at (λ p m. (λ i. test (f (p i, m i))) ∙ neither_first (test (f e)) _ none) (λ at. place_fails es (neither_second (test (f e)) _ none) q n at)

  -- ---- ids

  abbrev id_of : Names × Node B → ℕ
  id_of place = place.1.id.0

  pub one_place : (tree : Tree B) → all_differ (map id_of tree) ≡ true → (p q : Names) (a b : Node B) → node_at tree p ≡ Some a → node_at tree q ≡ Some b → a.id.0 ≡ b.id.0 → p ≡ q
  one_place [] h p q a b at bt same = absurd (none_some at)
  one_place (e ∷ es) h p q a b at bt same =
      let fresh : list_any (λ other. e.1.id.0 == other) (map id_of es) ≡ false = not_so _ (first (not (list_any (λ other. e.1.id.0 == other) (map id_of es))) _ h) in
      let apart : (r : Names) (n : Node B) → node_at es r ≡ Some n → e.1.id.0 ≡ n.id.0 → ⊥ = λ r n rt d. true_false ((Decides-eqb e.1.id.0 n.id.0).1 d) (place_fails id_of (λ other. e.1.id.0 == other) es fresh r n rt) in
      by_place e es p a at
      (λ pe ae. by_place e es q b bt (λ qe be. pe ∙ sym qe) (λ bt. absurd (apart q b bt (ap (λ (n : Node B). n.id.0) (sym ae) ∙ same))))
      (λ at. by_place e es q b bt
      (λ qe be. absurd (apart p a at (ap (λ (n : Node B). n.id.0) (sym be) ∙ sym same)))
      (λ bt. one_place es (second (not (list_any (λ other. e.1.id.0 == other) (map id_of es))) _ h) p q a b at bt same))

  pub ids_differ : (tree : Tree B) → is_sorted path_cmp tree ≡ true → ((p q : Names) (a b : Node B) → node_at tree p ≡ Some a → node_at tree q ≡ Some b → a.id.0 ≡ b.id.0 → p ≡ q) → all_differ (map id_of tree) ≡ true
  ids_differ [] h once = refl
  ids_differ (e ∷ es) h once =
      let above : below_all path_cmp e.0 es ≡ true = first (below_all path_cmp e.0 es) _ h in
      both
      (ap not (any_fails id_of (λ other. e.1.id.0 == other) es (second (below_all path_cmp e.0 es) _ h) (λ q n at.
      elim (e.1.id.0 == n.id.0) as (λ b. (e.1.id.0 == n.id.0) ≡ b → b ≡ false) [
        | true ↦ λ t. absurd (none_some (sym (missing_below e.0 es above) ∙ ap (node_at es) (once e.0 q e.1 n (head_at e es) (in_tail e es q n above at) ((Decides-eqb e.1.id.0 n.id.0).0 t)) ∙ at))
        | false ↦ λ t. refl
      ] refl)))
      (ids_differ es (second (below_all path_cmp e.0 es) _ h) (λ p q a b at bt. once p q a b (in_tail e es p a above at) (in_tail e es q b above bt)))
