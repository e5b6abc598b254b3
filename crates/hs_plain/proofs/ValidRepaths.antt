-- The nodes of a tree whose places have been put in again under other paths.
use Rattle.std.proofs.Common.{◌≡◌, true, [], ◌∷◌, map, Some, refl, sym, ap, ◌∙◌}
use Rattle.std.specs.Prelude.{◌≢◌}
use Rattle.std.specs.FinMap.Entries.{put, is_sorted, below_all}
use Rattle.hs_types.specs.Names.{Names}
use Rattle.hs_plain.specs.declared.state.Node.{Node}
use Rattle.hs_plain.specs.Tree.{Tree, path_cmp, node_at}
use Rattle.hs_plain.specs.Change.{put_all}
use Rattle.hs_plain.proofs.ValidTrees.{first, second}
use Rattle.hs_plain.proofs.ValidShapes.{by_same, none_some}
use Rattle.hs_plain.proofs.ValidPlaces.{missing_below, head_at, in_tail, by_place}
use Rattle.hs_plain.proofs.ValidChanges.{put_here, put_there}

module _ {B : Type 0} (to : Names → Names) (act : Names × Node B → Names × Node B) (acts : (place : Names × Node B) → act place ≡ (to place.0, place.1)) where
  path_acts : (e : Names × Node B) → (act e).0 ≡ to e.0
  path_acts e = ap (λ (x : Names × Node B). x.0) (acts e)

  node_acts : (e : Names × Node B) → (act e).1 ≡ e.1
  node_acts e = ap (λ (x : Names × Node B). x.1) (acts e)

  -- a path to which no place comes
  put_all_there : (tree acc : Tree B) (q : Names) → is_sorted path_cmp tree ≡ true → ((p : Names) (n : Node B) → node_at tree p ≡ Some n → to p ≢ q) → node_at (put_all acc (map act tree)) q ≡ node_at acc q
  put_all_there [] acc q h none = refl
  put_all_there (e ∷ es) acc q h none =
      put_all_there es (put path_cmp (act e).0 (act e).1 acc) q (second (below_all path_cmp e.0 es) _ h) (λ p n at. none p n (in_tail e es p n (first (below_all path_cmp e.0 es) _ h) at))
      ∙ put_there (act e).0 (act e).1 acc q (λ d. none e.0 e.1 (head_at e es) (sym (d ∙ path_acts e)))

  -- a node has come from some path
  pub put_all_from : {P : Type 0} (tree acc : Tree B) (q : Names) (n : Node B) → is_sorted path_cmp tree ≡ true → node_at (put_all acc (map act tree)) q ≡ Some n
      → (node_at acc q ≡ Some n → P) → ((p : Names) → node_at tree p ≡ Some n → to p ≡ q → P) → P
  put_all_from [] acc q n h at before came = before at
  put_all_from (e ∷ es) acc q n h at before came =
      put_all_from es (put path_cmp (act e).0 (act e).1 acc) q n (second (below_all path_cmp e.0 es) _ h) at
      (λ bt. by_same q (act e).0
      (λ d. came e.0 (head_at e es ∙ ap (λ (x : Node B). Some x) (sym (node_acts e)) ∙ sym (put_here (act e).0 (act e).1 acc) ∙ ap (node_at (put path_cmp (act e).0 (act e).1 acc)) (sym d) ∙ bt) (sym (d ∙ path_acts e)))
      (λ ne. before (sym (put_there (act e).0 (act e).1 acc q ne) ∙ bt)))
      (λ p bt d. came p (in_tail e es p n (first (below_all path_cmp e.0 es) _ h) bt) d)

  -- and each has come to its path, where no two come to one
  pub put_all_onto : (tree acc : Tree B) → is_sorted path_cmp tree ≡ true → ((p q : Names) (a b : Node B) → node_at tree p ≡ Some a → node_at tree q ≡ Some b → to p ≡ to q → p ≡ q)
      → (p : Names) (n : Node B) → node_at tree p ≡ Some n → node_at (put_all acc (map act tree)) (to p) ≡ Some n
  put_all_onto [] acc h apart p n at = absurd (none_some at)
  put_all_onto (e ∷ es) acc h apart p n at =
      let above : below_all path_cmp e.0 es ≡ true = first (below_all path_cmp e.0 es) _ h in
      by_place e es p n at
      (λ pe ne. put_all_there es (put path_cmp (act e).0 (act e).1 acc) (to p) (second (below_all path_cmp e.0 es) _ h)
      (λ q m qt d. none_some (sym (missing_below e.0 es above) ∙ ap (node_at es) (sym (apart q p m n (in_tail e es q m above qt) at d ∙ pe)) ∙ qt))
      ∙ ap (node_at (put path_cmp (act e).0 (act e).1 acc)) (ap to pe ∙ sym (path_acts e)) ∙ put_here (act e).0 (act e).1 acc ∙ ap (λ (x : Node B). Some x) (node_acts e ∙ sym ne))
      (λ bt. put_all_onto es (put path_cmp (act e).0 (act e).1 acc) (second (below_all path_cmp e.0 es) _ h) (λ x y a b xt yt. apart x y a b (in_tail e es x a above xt) (in_tail e es y b above yt)) p n bt)
