-- A directory's subtree, with paths from the directory: what stands in it, and that it is a tree again.
use Rattle.std.proofs.Common.{◌≡◌, true, false, cond, [], ◌∷◌, ◌++◌, map, length, drop, Some, refl, sym, ap, ◌∙◌}
use Rattle.std.specs.List.{filter}
use Rattle.std.specs.Ordering.{is_lt, is_eq, eq_by_cmp, ordering_then}
use Rattle.std.specs.Cmp.Lexicographic.{nat_list_cmp_total}
use Rattle.std.proofs.lemmas.Cmp.{tied_itself}
use Rattle.std.specs.FinMap.Entries.{is_sorted, below_all}
use Rattle.hs_types.specs.Names.{Names}
use Rattle.hs_plain.specs.declared.state.Node.{Node}
use Rattle.hs_plain.specs.Tree.{Tree, path_cmp, node_at, is_under, subtree}
use Rattle.hs_plain.proofs.ValidTrees.{both, first, second}
use Rattle.hs_plain.proofs.ValidShapes.{other-test, under_so, under_test, true_false}

-- ---- paths with one front

pub cmp-front : (front p q : Names) → path_cmp (front ++ p) (front ++ q) ≡ path_cmp p q
cmp-front [] p q = refl
cmp-front (name ∷ front) p q = ap (λ o. ordering_then o (path_cmp (front ++ p) (front ++ q))) (tied_itself nat_list_cmp_total name) ∙ cmp-front front p q

same-front : (front p q : Names) → eq_by_cmp path_cmp (front ++ p) (front ++ q) ≡ eq_by_cmp path_cmp p q
same-front front p q = ap is_eq (cmp-front front p q)

module _ {B : Type 0} where
  -- a place below the directory, with its path from there
  abbrev cut : Names → Names × Node B → Names × Node B
  cut path place = (drop (length path) place.0, place.1)

  pub node_at-subtree : (tree : Tree B) (path q : Names) → node_at (subtree tree path) q ≡ node_at tree (path ++ q)
  node_at-subtree [] path q = refl
  node_at-subtree (e ∷ es) path q = let rest = node_at-subtree es path q in
      elim (is_under path e) as (λ b. is_under path e ≡ b → node_at (map (cut path) (cond b (e ∷ filter (is_under path) es) (filter (is_under path) es))) q ≡ node_at (e ∷ es) (path ++ q)) [
        | true ↦ λ t.
            let at : e.0 ≡ path ++ drop (length path) e.0 = under_so e.0 path t in
            let same : eq_by_cmp path_cmp q (drop (length path) e.0) ≡ eq_by_cmp path_cmp (path ++ q) e.0 = sym (same-front path q (drop (length path) e.0)) ∙ ap (eq_by_cmp path_cmp (path ++ q)) (sym at) in
            λ i. cond (same i) (Some e.1) (rest i)
        | false ↦ λ f. rest ∙ ap (λ b. cond b (Some e.1) (node_at es (path ++ q))) (sym (other-test (path ++ q) e.0 (λ d. true_false (under_test e.0 path q (sym d)) f)))
      ] refl

  below_cut : (path p : Names) (tree : Tree B) → below_all path_cmp (path ++ p) tree ≡ true → below_all path_cmp p (subtree tree path) ≡ true
  below_cut path p [] below = refl
  below_cut path p (e ∷ es) below = let rest = below_cut path p es (second (is_lt (path_cmp (path ++ p) e.0)) _ below) in
      elim (is_under path e) as (λ b. is_under path e ≡ b → below_all path_cmp p (map (cut path) (cond b (e ∷ filter (is_under path) es) (filter (is_under path) es))) ≡ true) [
        | true ↦ λ t. both
            (ap is_lt (sym (cmp-front path p (drop (length path) e.0)) ∙ ap (path_cmp (path ++ p)) (sym (under_so e.0 path t))) ∙ first (is_lt (path_cmp (path ++ p) e.0)) _ below)
            rest
        | false ↦ λ f. rest
      ] refl

  pub sorted-subtree : (tree : Tree B) (path : Names) → is_sorted path_cmp tree ≡ true → is_sorted path_cmp (subtree tree path) ≡ true
  sorted-subtree [] path sorted = refl
  sorted-subtree (e ∷ es) path sorted = let rest = sorted-subtree es path (second (below_all path_cmp e.0 es) _ sorted) in
      elim (is_under path e) as (λ b. is_under path e ≡ b → is_sorted path_cmp (map (cut path) (cond b (e ∷ filter (is_under path) es) (filter (is_under path) es))) ≡ true) [
        | true ↦ λ t. both (below_cut path (drop (length path) e.0) es (ap (λ p. below_all path_cmp p es) (sym (under_so e.0 path t)) ∙ first (below_all path_cmp e.0 es) _ sorted)) rest
        | false ↦ λ f. rest
      ] refl
