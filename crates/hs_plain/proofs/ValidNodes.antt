-- The ids and kinds of a tree's nodes: what the lists of places say of them, and back.
use Rattle.std.proofs.Common.{◌≡◌, ℕ, ◌<◌, true, List, [], ◌∷◌, ◌++◌, Option, Some, None, refl, sym, ap, subst, ◌∙◌}
use Rattle.std.specs.Option.{option_map}
use Rattle.std.specs.FinMap.Entries.{is_sorted}
use Rattle.std.proofs.lemmas.Bool.Decides.{Decides-eqb}
use Rattle.hs_types.specs.Names.{Names}
use Rattle.hs_plain.specs.declared.state.Node.{Node}
use Rattle.hs_plain.specs.Tree.{Tree, path_cmp, node_at, is_dir, same_inode}
use Rattle.hs_plain.specs.Valid.{is_dir_node, is_dir_with, has_parent, has_parents, are_names, has_names, has_each_once}
use Rattle.hs_plain.proofs.ValidTrees.{both, first, second}
use Rattle.hs_plain.proofs.ValidShapes.{Shape, Shapes, IsTree, is_dir_shape, none_some, same_some, true_false, by_last, parent_of-last}
use Rattle.hs_plain.proofs.ValidPlaces.{all_places, place_passes, one_place, ids_differ}

module _ {B : Type 0} where
  abbrev pub shape : Node B → Shape
  shape node = (node.id.0, is_dir node)

  abbrev pub shapes : Tree B → Shapes
  shapes tree path = option_map shape (node_at tree path)

  pub shape_some : (o : Option (Node B)) (s : Shape) → option_map shape o ≡ Some s → (n : Node B) × (o ≡ Some n) × (shape n ≡ s)
  shape_some None s h = absurd (none_some h)
  shape_some (Some n) s h = (n, refl, same_some h)

  pub dir_shape : (o : Option (Node B)) → is_dir_shape (option_map shape o) ≡ is_dir_node o
  dir_shape None = refl
  dir_shape (Some n) = refl

  root_so : (o : Option (Node B)) → is_dir_with (record { 0 = 1 }) o ≡ true → option_map shape o ≡ Some (1, true)
  root_so None h = absurd (true_false h refl)
  root_so (Some n) h = let id : n.id.0 ≡ 1 = (Decides-eqb n.id.0 1).0 (first (same_inode n.id (record { 0 = 1 })) _ h) in let dir : is_dir n ≡ true = second (same_inode n.id (record { 0 = 1 })) _ h in λ i. Some (id i, dir i)

  root_from : (o : Option (Node B)) → option_map shape o ≡ Some (1, true) → is_dir_with (record { 0 = 1 }) o ≡ true
  root_from None h = absurd (none_some h)
  root_from (Some n) h = both ((Decides-eqb n.id.0 1).1 (ap (λ (s : Shape). s.0) (same_some h))) (ap (λ (s : Shape). s.1) (same_some h))

  has_parent-last : (tree : Tree B) (above : Names) (name : List ℕ) → has_parent tree (above ++ name ∷ []) ≡ is_dir_node (node_at tree above)
  has_parent-last tree [] name = ap (λ (p : Names). is_dir_node (node_at tree p)) (parent_of-last [] name)
  has_parent-last tree (other ∷ above) name = ap (λ (p : Names). is_dir_node (node_at tree p)) (parent_of-last (other ∷ above) name)

  pub tree_so : (tree : Tree B) (next : ℕ) → is_dir_with (record { 0 = 1 }) (node_at tree []) ≡ true → has_parents tree ≡ true → has_names tree ≡ true → has_each_once tree ≡ true → ((q : Names) (n : Node B) → node_at tree q ≡ Some n → n.id.0 < next) → IsTree (shapes tree) next
  tree_so tree next root parents names once below = record {
    root = root_so (node_at tree []) root;
    above = λ q name s h. let n = shape_some _ s h in dir_shape (node_at tree q) ∙ sym (has_parent-last tree q name) ∙ place_passes (λ place. has_parent tree place.0) tree parents (q ++ name ∷ []) n.0 n.1;
    once = λ p q a b h k same. let m = shape_some _ a h in let n = shape_some _ b k in
        one_place tree once p q m.0 n.0 m.1 n.1 (ap (λ (s : Shape). s.0) m.2 ∙ same ∙ ap (λ (s : Shape). s.0) (sym n.2));
    below = λ q s h. let n = shape_some _ s h in subst (λ (t : Shape). t.0 < next) n.2 (below q n.0 n.1);
    named = λ q s h. let n = shape_some _ s h in place_passes (λ place. are_names place.0) tree names q n.0 n.1;
  }

  pub root-from : (tree : Tree B) (next : ℕ) → IsTree (shapes tree) next → is_dir_with (record { 0 = 1 }) (node_at tree []) ≡ true
  root-from tree next is = root_from (node_at tree []) is.root

  module _ (tree : Tree B) (sorted : is_sorted path_cmp tree ≡ true) where
    pub parents-from : ((q : Names) (name : List ℕ) (s : Shape) → shapes tree (q ++ name ∷ []) ≡ Some s → is_dir_shape (shapes tree q) ≡ true) → has_parents tree ≡ true
    parents-from above = all_places (λ place. has_parent tree place.0) tree sorted (λ q n at. by_last (λ r. node_at tree r ≡ Some n → has_parent tree r ≡ true) q (λ _. refl)
        (λ up name at. has_parent-last tree up name ∙ sym (dir_shape (node_at tree up)) ∙ above up name (shape n) (ap (option_map shape) at)) at)

    pub named-from : ((q : Names) (s : Shape) → shapes tree q ≡ Some s → are_names q ≡ true) → has_names tree ≡ true
    named-from named = all_places (λ place. are_names place.0) tree sorted (λ q n at. named q (shape n) (ap (option_map shape) at))

    pub once-from : ((p q : Names) (a b : Shape) → shapes tree p ≡ Some a → shapes tree q ≡ Some b → a.0 ≡ b.0 → p ≡ q) → has_each_once tree ≡ true
    once-from once = ids_differ tree sorted (λ p q a b at bt same. once p q (shape a) (shape b) (ap (option_map shape) at) (ap (option_map shape) bt) same)
