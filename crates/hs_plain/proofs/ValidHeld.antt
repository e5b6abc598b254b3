-- The nodes of the live tree and of all copied trees: what holds of each, and of each two.
use Rattle.std.proofs.Common.{◌≡◌, ◌⊎◌, inl, inr, ℕ, ◌<◌, Bool, true, false, List, [], ◌∷◌, ◌++◌, Some, refl, sym, ap, subst, ◌∙◌}
use Rattle.std.specs.Prelude.{not, ◌&&◌, nat_lt}
use Rattle.std.specs.List.{list_any, list_all, flat_map}
use Rattle.std.specs.FinMap.Entries.{is_sorted, below_all}
use Rattle.std.proofs.lemmas.Bool.Decides.{Decides-eqb, Decides-ltb}
use Rattle.hs_types.specs.Names.{Names}
use Rattle.hs_plain.specs.declared.state.Node.{Node}
use Rattle.hs_plain.specs.declared.state.Member.{Member}
use Rattle.hs_plain.specs.declared.state.State.{State}
use Rattle.hs_plain.specs.Tree.{Tree, path_cmp, node_at, is_dir, same_inode}
use Rattle.hs_plain.specs.Valid.{all_nodes, clash, has_clash, IsValid}
use Rattle.hs_plain.proofs.ValidTrees.{first, second}
use Rattle.hs_plain.proofs.ValidShapes.{none_some}
use Rattle.hs_plain.proofs.ValidPlaces.{head_at, in_tail, by_place}
use Rattle.hs_plain.proofs.ValidLists.{In, by_append, in-left, in-right, in-map, map_so, in-flat_map, flat_map_so, all_so, all_from, none_so, none_from}

-- ---- tests

same_by : (a b : Bool) → (a && not b) ≡ false → (b && not a) ≡ false → a ≡ b
same_by true true h g = refl
same_by true false h g = h
same_by false true h g = sym g
same_by false false h g = refl

not_both : (x : Bool) → (x && not x) ≡ false
not_both true = refl
not_both false = refl

module _ {B : Type 0} where
  -- ---- places

  pub in-tree : (tree : Tree B) (q : Names) (n : Node B) → node_at tree q ≡ Some n → In tree (q, n)
  in-tree [] q n at = absurd (none_some at)
  in-tree (e ∷ es) q n at = by_place e es q n at (λ p m. inl (λ i. (sym p i, sym m i))) (λ bt. inr (in-tree es q n bt))

  pub found_place : (tree : Tree B) → is_sorted path_cmp tree ≡ true → (e : Names × Node B) → In tree e → node_at tree e.0 ≡ Some e.1
  found_place [] sorted e at = absurd at
  found_place (d ∷ es) sorted e (inl same) = subst (λ (x : Names × Node B). node_at (d ∷ es) x.0 ≡ Some x.1) same (head_at d es)
  found_place (d ∷ es) sorted e (inr at) = in_tail d es e.0 e.1 (first (below_all path_cmp d.0 es) _ sorted) (found_place es (second (below_all path_cmp d.0 es) _ sorted) e at)

  -- ---- nodes of a state

  -- a node stands at some path
  abbrev pub Stands : Tree B → Node B → Type 0
  Stands tree node = (p : Names) × (node_at tree p ≡ Some node)

  -- a node stands in the live tree or in a copied tree
  abbrev pub Held : State B → Node B → Type 0
  Held state node = Stands state.tree node ⊎ ((m : Member B) × (In state.members m) × (Stands m.tree node))

  node_of : Names × Node B → Node B
  node_of place = place.1

  pub in-held : (state : State B) (n : Node B) → Held state n → In (all_nodes state) n
  in-held state n (inl at) = in-map (λ place. place.1) (state.tree ++ flat_map (λ member. member.tree) state.members) (at.0, n) (in-left state.tree _ (at.0, n) (in-tree state.tree at.0 n at.1))
  in-held state n (inr at) = in-map (λ place. place.1) (state.tree ++ flat_map (λ member. member.tree) state.members) (at.2.0, n)
      (in-right state.tree _ (at.2.0, n) (in-flat_map (λ (member : Member B). member.tree) state.members at.0 (at.2.0, n) at.1 (in-tree at.0.tree at.2.0 n at.2.1)))

  pub held-in : (state : State B) → is_sorted path_cmp state.tree ≡ true → list_all (λ member. is_sorted path_cmp member.tree) state.members ≡ true → (n : Node B) → In (all_nodes state) n → Held state n
  held-in state live copies n at =
      let w = map_so (λ (place : Names × Node B). place.1) (state.tree ++ flat_map (λ member. member.tree) state.members) n at in
      subst (Held state) w.2
      (by_append state.tree (flat_map (λ member. member.tree) state.members) w.0 w.1
      (λ here. inl (w.0.0, found_place state.tree live w.0 here))
      (λ there. let c = flat_map_so (λ (member : Member B). member.tree) state.members w.0 there in
      inr (c.0, c.1, (w.0.0, found_place c.0.tree (all_so (λ (member : Member B). is_sorted path_cmp member.tree) state.members copies c.0 c.1) w.0 c.2))))

  -- ---- one id is of one kind

  pub kinds_so : (state : State B) → IsValid state → (a b : Node B) → Held state a → Held state b → a.id.0 ≡ b.id.0 → is_dir a ≡ is_dir b
  kinds_so state valid a b ha hb same = same_by (is_dir a) (is_dir b) (apart a b ha hb same) (apart b a hb ha (sym same))
    where
      apart : (x y : Node B) → Held state x → Held state y → x.id.0 ≡ y.id.0 → (is_dir x && not (is_dir y)) ≡ false
      apart x y hx hy e =
          ap (λ t. t && is_dir x && not (is_dir y)) (sym ((Decides-eqb x.id.0 y.id.0).1 e))
          ∙ none_so (clash x) (all_nodes state) (none_so (λ c. list_any (clash c) (all_nodes state)) (all_nodes state) valid.one_kind x (in-held state x hx)) y (in-held state y hy)

  pub kinds-from : (nodes : List (Node B)) → ((a b : Node B) → In nodes a → In nodes b → a.id.0 ≡ b.id.0 → is_dir a ≡ is_dir b) → has_clash nodes ≡ false
  kinds-from nodes all = none_from (λ c. list_any (clash c) nodes) nodes (λ a ina. none_from (clash a) nodes (λ b inb.
      elim (same_inode a.id b.id) as (λ t. same_inode a.id b.id ≡ t → (t && is_dir a && not (is_dir b)) ≡ false) [
        | true ↦ λ t. ap (λ x. x && not (is_dir b)) (all a b ina inb ((Decides-eqb a.id.0 b.id.0).0 t)) ∙ not_both (is_dir b)
        | false ↦ λ t. refl
      ] refl))

  -- ---- ids are below the next one

  pub below_so : (state : State B) → IsValid state → (a : Node B) → Held state a → a.id.0 < state.next_inode
  below_so state valid a held = (Decides-ltb a.id.0 state.next_inode).0 (all_so (λ node. nat_lt node.id.0 state.next_inode) (all_nodes state) valid.ids_below a (in-held state a held))

  pub below-from : (next : ℕ) (nodes : List (Node B)) → ((a : Node B) → In nodes a → a.id.0 < next) → list_all (λ node. nat_lt node.id.0 next) nodes ≡ true
  below-from next nodes all = all_from (λ node. nat_lt node.id.0 next) nodes (λ a at. (Decides-ltb a.id.0 next).1 (all a at))
