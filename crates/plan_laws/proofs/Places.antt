-- Places of a valid tree, by id and by path.
use Rattle.std.proofs.Common.{◌≡◌, ℕ, true, false, ◌||◌, bytes_eq, cond, Option, Some, None, List, [], ◌∷◌, ◌++◌, refl, ap, sym, subst, ◌∙◌}
use Rattle.std.specs.Prelude.{◌&&◌}
use Rattle.std.specs.Option.{option_map}
use Rattle.std.specs.FinMap.Entries.{is_sorted, below_all}
use Rattle.std.proofs.lemmas.Bool.Decides.{Decides-eqb}
use Rattle.hs_types.specs.Names.{Names}
use Rattle.hs_types.specs.declared.ids.InodeId.{InodeId}
use Rattle.hs_plain.specs.declared.state.Node.{Node}
use Rattle.hs_plain.specs.Tree.{Tree, path_cmp, node_at, is_dir, is_root_path, same_inode, place_of}
use Rattle.hs_plain.specs.Valid.{is_dir_node, has_parent}
use Rattle.hs_plain.proofs.ValidTrees.{first, second}
use Rattle.hs_plain.proofs.ValidShapes.{none_some, same_some, true_false, parent_of-last}
use Rattle.hs_plain.proofs.ValidPlaces.{head_at, in_tail, by_place, place_passes, one_place}
use Rattle.hs_plain.specs.Report.{node_id, id_above, last_of, same_id, same_place}
use Rattle.plan_laws.specs.Pair.{IsTree}
use Rattle.plan_laws.proofs.Paths.{by, by_one}

-- where a place is
abbrev pub path_of_place : {B : Type 0} → Names × Node B → Names
path_of_place place = place.0

pub last_of-last : (above : Names) (name : List ℕ) → last_of (above ++ name ∷ []) ≡ name
last_of-last [] name = refl
last_of-last (a ∷ []) name = refl
last_of-last (a ∷ b ∷ above) name = last_of-last (b ∷ above) name

pub not_root : (above : Names) (name : List ℕ) → is_root_path (above ++ name ∷ []) ≡ false
not_root [] name = refl
not_root (a ∷ above) name = refl

module _ {B : Type 0} where
  pub place_of-so : (tree : Tree B) (id : InodeId) (place : Names × Node B) → is_sorted path_cmp tree ≡ true → place_of tree id ≡ Some place → (node_at tree place.0 ≡ Some place.1) × (place.1.id.0 ≡ id.0)
  place_of-so [] id place h at = absurd (none_some at)
  place_of-so (e ∷ es) id place h at = by (same_inode e.1.id id)
      (λ t. let same : e ≡ place = same_some (ap (λ b. cond b (Some e) (place_of es id)) (sym t) ∙ at) in
      subst (λ (x : Names × Node B). (node_at (e ∷ es) x.0 ≡ Some x.1) × (x.1.id.0 ≡ id.0)) same (head_at e es, (Decides-eqb e.1.id.0 id.0).0 t))
      (λ f. let so : (node_at es place.0 ≡ Some place.1) × (place.1.id.0 ≡ id.0) = place_of-so es id place (second (below_all path_cmp e.0 es) _ h) (ap (λ b. cond b (Some e) (place_of es id)) (sym f) ∙ at) in
      (in_tail e es place.0 place.1 (first (below_all path_cmp e.0 es) _ h) so.0, so.1))

  pub place_of-missing : (tree : Tree B) (id : InodeId) (q : Names) (m : Node B) → place_of tree id ≡ None → node_at tree q ≡ Some m → m.id.0 ≡ id.0 → ⊥
  place_of-missing [] id q m none at same = none_some at
  place_of-missing (e ∷ es) id q m none at same = by (same_inode e.1.id id)
      (λ t. none_some (sym (ap (λ b. cond b (Some e) (place_of es id)) (sym t) ∙ none)))
      (λ f. by_place e es q m at
      (λ qe me. true_false ((Decides-eqb e.1.id.0 id.0).1 (ap (λ (n : Node B). n.id.0) (sym me) ∙ same)) f)
      (λ bt. place_of-missing es id q m (ap (λ b. cond b (Some e) (place_of es id)) (sym f) ∙ none) bt same))

  module _ (tree : Tree B) (is : IsTree tree) where
    pub place_of-here : (q : Names) (m : Node B) (id : InodeId) → node_at tree q ≡ Some m → id.0 ≡ m.id.0 → place_of tree id ≡ Some (q, m)
    place_of-here q m id at same = by_one (place_of tree id)
        (λ place h. let so : (node_at tree place.0 ≡ Some place.1) × (place.1.id.0 ≡ id.0) = place_of-so tree id place is.sorted h in
        let path : place.0 ≡ q = one_place tree is.each_once place.0 q place.1 m so.0 at (so.1 ∙ same) in
        let node : place.1 ≡ m = same_some (sym so.0 ∙ ap (node_at tree) path ∙ at) in
        h ∙ (λ i. Some (path i, node i)))
        (λ none. absurd (place_of-missing tree id q m none at (sym same)))

    dir_some : (o : Option (Node B)) → is_dir_node o ≡ true → (dir : Node B) × (o ≡ Some dir) × (is_dir dir ≡ true)
    dir_some None h = absurd (true_false h refl)
    dir_some (Some dir) h = (dir, refl, h)

    has_parent-at : (above : Names) (name : List ℕ) → has_parent tree (above ++ name ∷ []) ≡ is_dir_node (node_at tree above)
    has_parent-at [] name = ap (λ (p : Names). is_dir_node (node_at tree p)) (parent_of-last [] name)
    has_parent-at (other ∷ above) name = ap (λ (p : Names). is_dir_node (node_at tree p)) (parent_of-last (other ∷ above) name)

    pub dir-above : (above : Names) (name : List ℕ) (node : Node B) → node_at tree (above ++ name ∷ []) ≡ Some node → (dir : Node B) × (node_at tree above ≡ Some dir) × (is_dir dir ≡ true)
    dir-above above name node at = dir_some (node_at tree above) (sym (has_parent-at above name) ∙ place_passes (λ place. has_parent tree place.0) tree is.parents (above ++ name ∷ []) node at)

    pub none-below : (above : Names) (name : List ℕ) → node_at tree above ≡ None → node_at tree (above ++ name ∷ []) ≡ None
    none-below above name none = by_one (node_at tree (above ++ name ∷ []))
        (λ node at. absurd (none_some (sym none ∙ (dir-above above name node at).1)))
        (λ gone. gone)

  pub id_above-at : (tree : Tree B) (above : Names) (name : List ℕ) (dir : Node B) → node_at tree above ≡ Some dir → id_above tree (above ++ name ∷ []) ≡ Some dir.id
  id_above-at tree above name dir at = ap (λ (p : Names). option_map node_id (node_at tree p)) (parent_of-last above name) ∙ ap (option_map node_id) at

  pub same_place-at : (from to : Tree B) (p t : Names) (n m : List ℕ) (a b : Node B) → node_at from p ≡ Some a → node_at to t ≡ Some b → same_place from to (p ++ n ∷ []) (t ++ m ∷ []) ≡ (same_inode a.id b.id && bytes_eq n m)
  same_place-at from to p t n m a b here there =
      ap (λ c. c || (same_id (id_above from (p ++ n ∷ [])) (id_above to (t ++ m ∷ [])) && bytes_eq (last_of (p ++ n ∷ [])) (last_of (t ++ m ∷ [])))) (not_root p n)
      ∙ ap (λ o. same_id o (id_above to (t ++ m ∷ [])) && bytes_eq (last_of (p ++ n ∷ [])) (last_of (t ++ m ∷ []))) (id_above-at from p n a here)
      ∙ ap (λ o. same_id (Some a.id) o && bytes_eq (last_of (p ++ n ∷ [])) (last_of (t ++ m ∷ []))) (id_above-at to t m b there)
      ∙ ap (λ x. same_inode a.id b.id && bytes_eq x (last_of (t ++ m ∷ []))) (last_of-last p n)
      ∙ ap (λ x. same_inode a.id b.id && bytes_eq n x) (last_of-last t m)
