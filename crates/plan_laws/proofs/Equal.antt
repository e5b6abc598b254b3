-- Trees are equal where they have the same at each path.
use Rattle.std.proofs.Common.{◌≡◌, ℕ, true, false, cond, Some, List, [], ◌∷◌, refl, ap, sym, ◌∙◌}
use Rattle.std.specs.Prelude.{◌&&◌}
use Rattle.std.specs.Ordering.{eq_by_cmp, is_lt}
use Rattle.std.specs.FinMap.Entries.{find, is_sorted, below_all, same_entries}
use Rattle.hs_types.specs.Names.{Names}
use Rattle.hs_plain.specs.declared.state.State.{State}
use Rattle.hs_plain.specs.Tree.{Tree, path_cmp, node_at, subtree}
use Rattle.hs_plain.specs.Plan.{content, AreEqual}
use Rattle.hs_plain.proofs.ValidTrees.{paths_total, paths_exact, holds_so}
use Rattle.hs_plain.proofs.ValidSubtrees.{node_at-subtree, sorted-subtree}
use Rattle.plan_laws.specs.Copies.{content_of}
use Rattle.plan_laws.specs.Bridge.{held}

find-content : (tree : Tree (List ℕ)) (q : Names) → find path_cmp q (content tree) ≡ content_of (node_at tree q)
find-content [] q = refl
find-content (e ∷ es) q = elim (eq_by_cmp path_cmp q e.0) as (λ b. cond b (Some e.1.body) (find path_cmp q (content es)) ≡ content_of (cond b (Some e.1) (node_at es q))) [
  | true ↦ refl
  | false ↦ find-content es q
]

below-content : (x : Names) (tree : Tree (List ℕ)) → below_all path_cmp x (content tree) ≡ below_all path_cmp x tree
below-content x [] = refl
below-content x (e ∷ es) = ap (λ b. is_lt (path_cmp x e.0) && b) (below-content x es)

sorted-content : (tree : Tree (List ℕ)) → is_sorted path_cmp (content tree) ≡ is_sorted path_cmp tree
sorted-content [] = refl
sorted-content (e ∷ es) = λ i. below-content e.0 es i && sorted-content es i

-- equal trees have the same at each path
pub equal-at : (a b : Tree (List ℕ)) → AreEqual a b → (q : Names) → content_of (node_at a q) ≡ content_of (node_at b q)
equal-at a b same q = sym (find-content a q) ∙ ap (find path_cmp q) same ∙ find-content b q

-- and trees that have the same at each path are equal
pub equal-from : (a b : Tree (List ℕ)) → is_sorted path_cmp a ≡ true → is_sorted path_cmp b ≡ true → ((q : Names) → content_of (node_at a q) ≡ content_of (node_at b q)) → AreEqual a b
equal-from a b a_sorted b_sorted same = same_entries path_cmp paths_total paths_exact (content a) (content b) (holds_so (sorted-content a ∙ a_sorted)) (holds_so (sorted-content b ∙ b_sorted))
    (λ q. find-content a q ∙ same q ∙ sym (find-content b q))

-- what a state holds below a root is what the subtree there has
pub held-at : (state : State (List ℕ)) (root q : Names) → held state root q ≡ content_of (node_at (subtree state.tree root) q)
held-at state root q = ap content_of (sym (node_at-subtree state.tree root q))

pub equal-held : (state : State (List ℕ)) (root : Names) (tree : Tree (List ℕ)) → is_sorted path_cmp state.tree ≡ true → is_sorted path_cmp tree ≡ true → ((q : Names) → held state root q ≡ content_of (node_at tree q)) → AreEqual tree (subtree state.tree root)
equal-held state root tree sorted tree_sorted same = equal-from tree (subtree state.tree root) tree_sorted (sorted-subtree state.tree root sorted) (λ q. sym (same q) ∙ held-at state root q)
