-- The ids and kinds of a tree's nodes after a change of the tree.
use Rattle.std.proofs.Common.{◌≡◌, ℕ, true, false, cond, [], ◌∷◌, ◌++◌, map, length, drop, Some, None, refl, sym, ap, ◌∙◌}
use Rattle.std.specs.Prelude.{◌≢◌, not, bytes_eq}
use Rattle.std.specs.List.{starts_with}
use Rattle.std.specs.Option.{option_map}
use Rattle.std.specs.Ordering.{eq_by_cmp}
use Rattle.std.specs.FinMap.Entries.{put, find-put, find-where_key}
use Rattle.std.proofs.Math.Seq.{drop-append_seam}
use Rattle.hs_types.specs.Names.{Names}
use Rattle.hs_plain.specs.declared.state.Node.{Node}
use Rattle.hs_plain.specs.Tree.{Tree, path_cmp, node_at, same_path}
use Rattle.hs_plain.specs.Change.{restamp, stamped, remode, moded, without, repath, at_new}
use Rattle.hs_plain.specs.inside.Places.{IsOutside}
use Rattle.hs_plain.proofs.ValidTrees.{paths_total, paths_exact, restamp-kept, remode-kept}
use Rattle.hs_plain.proofs.ValidShapes.{same_so, same-itself, other-test, under_test, under_so}
use Rattle.hs_plain.proofs.ValidNodes.{shape, shapes}

-- a path that isn't at or below another
pub apart_test : (q path : Names) → ((rest : Names) → q ≢ path ++ rest) → starts_with bytes_eq q path ≡ false
apart_test q path apart = elim (starts_with bytes_eq q path) as (λ b. starts_with bytes_eq q path ≡ b → b ≡ false) [
  | true ↦ λ h. absurd (apart (drop (length path) q) (under_so q path h))
  | false ↦ λ h. refl
] refl

module _ {B : Type 0} where
  -- nodes that keep their paths, ids and kinds
  module _ (g : Names × Node B → Names × Node B) (kept : (place : Names × Node B) → (g place).0 ≡ place.0) (alike : (place : Names × Node B) → shape (g place).1 ≡ shape place.1) where
    shapes-map : (tree : Tree B) (q : Names) → shapes (map g tree) q ≡ shapes tree q
    shapes-map [] q = refl
    shapes-map (e ∷ es) q =
        ap (λ (p : Names). option_map shape (cond (eq_by_cmp path_cmp q p) (Some (g e).1) (node_at (map g es) q))) (kept e)
        ∙ elim (eq_by_cmp path_cmp q e.0) as (λ b. option_map shape (cond b (Some (g e).1) (node_at (map g es) q)) ≡ option_map shape (cond b (Some e.1) (node_at es q))) [
          | true ↦ ap (λ s. Some s) (alike e)
          | false ↦ shapes-map es q
        ]

  restamp-alike : (path : Names) (tick : ℕ) (place : Names × Node B) → shape (restamp path tick place).1 ≡ shape place.1
  restamp-alike path tick place = elim (same_path path place.0) as (λ b. shape (cond b (place.0, record place.1 { stamp = tick }) place).1 ≡ shape place.1) [ true ↦ refl | false ↦ refl ]

  remode-alike : (path : Names) (mode tick : ℕ) (place : Names × Node B) → shape (remode path mode tick place).1 ≡ shape place.1
  remode-alike path mode tick place = elim (same_path path place.0) as (λ b. shape (cond b (place.0, record place.1 { mode = mode; stamp = tick }) place).1 ≡ shape place.1) [ true ↦ refl | false ↦ refl ]

  pub shapes-stamped : (tree : Tree B) (path : Names) (tick : ℕ) → shapes (stamped tree path tick) ≡ shapes tree
  shapes-stamped tree path tick = λ i q. shapes-map (restamp path tick) (restamp-kept path tick) (restamp-alike path tick) tree q i

  pub shapes-moded : (tree : Tree B) (path : Names) (mode tick : ℕ) → shapes (moded tree path mode tick) ≡ shapes tree
  shapes-moded tree path mode tick = λ i q. shapes-map (remode path mode tick) (remode-kept path mode tick) (remode-alike path mode tick) tree q i

  -- ---- a node put in

  pub node_at-put : (path : Names) (node : Node B) (tree : Tree B) (q : Names) → node_at (put path_cmp path node tree) q ≡ cond (eq_by_cmp path_cmp q path) (Some node) (node_at tree q)
  node_at-put path node tree q = find-put path_cmp paths_total q path node tree

  pub put_here : (path : Names) (node : Node B) (tree : Tree B) → node_at (put path_cmp path node tree) path ≡ Some node
  put_here path node tree = node_at-put path node tree path ∙ ap (λ b. cond b (Some node) (node_at tree path)) (same-itself path)

  pub put_there : (path : Names) (node : Node B) (tree : Tree B) (q : Names) → q ≢ path → node_at (put path_cmp path node tree) q ≡ node_at tree q
  put_there path node tree q ne = node_at-put path node tree q ∙ ap (λ b. cond b (Some node) (node_at tree q)) (other-test q path ne)

  -- a node put in the place of one with its id and kind
  pub shapes-put_alike : (path : Names) (was node : Node B) (tree : Tree B) → node_at tree path ≡ Some was → shape node ≡ shape was → shapes (put path_cmp path node tree) ≡ shapes tree
  shapes-put_alike path was node tree there alike = λ i q. at q i
    where
      at : (q : Names) → shapes (put path_cmp path node tree) q ≡ shapes tree q
      at q = ap (option_map shape) (node_at-put path node tree q)
          ∙ elim (eq_by_cmp path_cmp q path) as (λ b. eq_by_cmp path_cmp q path ≡ b → option_map shape (cond b (Some node) (node_at tree q)) ≡ option_map shape (node_at tree q)) [
            | true ↦ λ tie. ap (λ s. Some s) alike ∙ ap (option_map shape) (sym there) ∙ ap (λ (p : Names). option_map shape (node_at tree p)) (sym (same_so tie))
            | false ↦ λ _. refl
          ] refl

  -- ---- a subtree taken out

  pub node_at-without : (tree : Tree B) (path q : Names) → node_at (without tree path) q ≡ cond (not (starts_with bytes_eq q path)) (node_at tree q) None
  node_at-without tree path q = find-where_key path_cmp (λ other. not (starts_with bytes_eq other path)) q (λ other tie. ap (λ (x : Names). not (starts_with bytes_eq x path)) (sym (paths_exact q other tie))) tree

  pub without-below : (tree : Tree B) (path rest : Names) → node_at (without tree path) (path ++ rest) ≡ None
  without-below tree path rest = node_at-without tree path (path ++ rest) ∙ ap (λ b. cond (not b) (node_at tree (path ++ rest)) None) (under_test (path ++ rest) path rest refl)

  pub without-elsewhere : (tree : Tree B) (path other : Names) → IsOutside path other → node_at (without tree path) other ≡ node_at tree other
  without-elsewhere tree path other outside = node_at-without tree path other ∙ ap (λ b. cond (not b) (node_at tree other) None) (apart_test other path outside)

  pub without_gone : (tree : Tree B) (path rest : Names) → shapes (without tree path) (path ++ rest) ≡ None
  without_gone tree path rest = ap (option_map shape) (without-below tree path rest)

  pub without_there : (tree : Tree B) (path q : Names) → IsOutside path q → shapes (without tree path) q ≡ shapes tree q
  without_there tree path q outside = ap (option_map shape) (without-elsewhere tree path q outside)

-- ---- a subtree moved

-- where a path leads after a move
abbrev pub moved_path : Names → Names → Names → Names
moved_path old new path = cond (starts_with bytes_eq path old) (new ++ drop (length old) path) path

pub moved_under : (old new rest : Names) → moved_path old new (old ++ rest) ≡ new ++ rest
moved_under old new rest =
    ap (λ b. cond b (new ++ drop (length old) (old ++ rest)) (old ++ rest)) (under_test (old ++ rest) old rest refl) ∙ ap (λ (x : Names). new ++ x) (drop-append_seam old rest)

pub moved_other : (old new p : Names) → ((rest : Names) → p ≢ old ++ rest) → moved_path old new p ≡ p
moved_other old new p apart = ap (λ b. cond b (new ++ drop (length old) p) p) (apart_test p old apart)

pub repath-is : {B : Type 0} (old new : Names) (place : Names × Node B) → repath old new place ≡ (moved_path old new place.0, place.1)
repath-is {B} old new place =
    elim (starts_with bytes_eq place.0 old) as (λ b. at_new place (cond b (Some (new ++ drop (length old) place.0)) None) ≡ (cond b (new ++ drop (length old) place.0) place.0, place.1)) [ true ↦ refl | false ↦ refl ]
