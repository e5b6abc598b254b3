-- A valid state stays valid where its live tree and its snapshottable directories change.
use Rattle.std.proofs.Common.{◌≡◌, ◌⊎◌, inl, inr, ℕ, ◌<◌, ◌≤◌, true, List, map, Some, refl, sym, ap, ◌∙◌, arith, leb-true, le-leb}
use Rattle.std.specs.Prelude.{nat_le}
use Rattle.std.specs.List.{list_all, list_any}
use Rattle.std.specs.Option.{option_map}
use Rattle.std.specs.FinMap.Entries.{is_sorted}
use Rattle.hs_types.specs.Names.{Names}
use Rattle.hs_types.specs.declared.ids.InodeId.{InodeId}
use Rattle.hs_plain.specs.declared.state.Node.{Node}
use Rattle.hs_plain.specs.declared.state.State.{State}
use Rattle.hs_plain.specs.Tree.{Tree, path_cmp, node_at, is_dir, same_inode}
use Rattle.hs_plain.specs.Valid.{all_nodes, all_differ, IsValid}
use Rattle.hs_plain.proofs.ValidShapes.{Shape, IsTree, same_some}
use Rattle.hs_plain.proofs.ValidNodes.{shape, shapes, shape_some, tree_so, root-from, parents-from, named-from, once-from}
use Rattle.hs_plain.proofs.ValidLists.{all_so, all_from}
use Rattle.hs_plain.proofs.ValidHeld.{Stands, Held, held-in, kinds_so, kinds-from, below_so, below-from}
use Rattle.hs_plain.proofs.ValidDirs.{AreDirs, dirs_so, dirs-all, dirs-apart}

module _ {B : Type 0} where
  -- ---- the live tree of a valid state

  pub live_tree : (state : State B) → IsValid state → IsTree (shapes state.tree) state.next_inode
  live_tree state valid = tree_so state.tree state.next_inode valid.root valid.parents valid.names valid.each_once (λ q n at. below_so state valid n (inl (q, at)))

  pub live_dirs : (state : State B) → IsValid state → AreDirs (shapes state.tree) state.snapshottable
  live_dirs state valid = dirs_so state.tree state.next_inode valid.sorted (live_tree state valid) state.snapshottable valid.snapshottable_dirs valid.not_nested

  -- ---- a live tree after another, with the snapshots that there were

  abbrev pub followed : State B → Tree B → ℕ → List InodeId → ℕ → State B
  followed state tree next ids tick = record state { tree = tree; snapshottable = ids; next_inode = next; tick = tick }

  -- it is a tree in which each id is new or was there in the same kind, with its snapshottable directories, among them all that have snapshots
  pub record Follows (state : State B) (tree : Tree B) (next : ℕ) (ids : List InodeId) : Type 0 where
    pub sorted : is_sorted path_cmp tree ≡ true
    pub is_tree : IsTree (shapes tree) next
    pub more : state.next_inode ≤ next
    pub new_or_old : (q : Names) (s : Shape) → shapes tree q ≡ Some s → (state.next_inode ≤ s.0) ⊎ ((p : Names) × (shapes state.tree p ≡ Some s))
    pub dirs : AreDirs (shapes tree) ids
    pub once : all_differ (map (λ id. id.0) ids) ≡ true
    pub member_dirs : list_all (λ member. list_any (same_inode member.directory) ids) state.members ≡ true

  module _ (state : State B) (valid : IsValid state) (tree : Tree B) (next : ℕ) (ids : List InodeId) (tick : ℕ) (follows : Follows state tree next ids) (later : state.tick ≤ tick) where
    abbrev next_state : State B
    next_state = followed state tree next ids tick

    -- a node of the next state is a new one, or has the id and kind of one that was there
    abbrev IsNew : Node B → Type 0
    IsNew n = Stands tree n × (state.next_inode ≤ n.id.0)

    abbrev IsOld : Node B → Type 0
    IsOld n = (m : Node B) × (Held state m) × (shape m ≡ shape n)

    new_or_old : (n : Node B) → Held next_state n → IsNew n ⊎ IsOld n
    new_or_old n (inr at) = inr (n, inr at, refl)
    new_or_old n (inl at) = by_shape (follows.new_or_old at.0 (shape n) (ap (option_map shape) at.1))
      where
        by_shape : (state.next_inode ≤ n.id.0) ⊎ ((p : Names) × (shapes state.tree p ≡ Some (shape n))) → IsNew n ⊎ IsOld n
        by_shape (inl new) = inl (at, new)
        by_shape (inr old) = let m = shape_some (node_at state.tree old.0) (shape n) old.1 in inr (m.0, inl (old.0, m.1), m.2)

    differ : (a b : Node B) → IsNew a → IsOld b → a.id.0 ≡ b.id.0 → ⊥
    differ a b new old same =
        let lt : old.0.id.0 < state.next_inode = below_so state valid old.0 old.1 in
        let id : old.0.id.0 ≡ b.id.0 = ap (λ (s : Shape). s.0) old.2 in
        let le : state.next_inode ≤ a.id.0 = new.1 in
        omega arith

    kinds : (a b : Node B) → Held next_state a → Held next_state b → a.id.0 ≡ b.id.0 → is_dir a ≡ is_dir b
    kinds a b ha hb same = by_both (new_or_old a ha) (new_or_old b hb)
      where
        by_both : IsNew a ⊎ IsOld a → IsNew b ⊎ IsOld b → is_dir a ≡ is_dir b
        by_both (inl an) (inl bn) =
            let path = follows.is_tree.once an.0.0 bn.0.0 (shape a) (shape b) (ap (option_map shape) an.0.1) (ap (option_map shape) bn.0.1) same in
            ap is_dir (same_some (sym an.0.1 ∙ ap (node_at tree) path ∙ bn.0.1))
        by_both (inl an) (inr bo) = absurd (differ a b an bo same)
        by_both (inr ao) (inl bn) = absurd (differ b a bn ao (sym same))
        by_both (inr ao) (inr bo) =
            ap (λ (s : Shape). s.1) (sym ao.2)
            ∙ kinds_so state valid ao.0 bo.0 ao.1 bo.1 (ap (λ (s : Shape). s.0) ao.2 ∙ same ∙ ap (λ (s : Shape). s.0) (sym bo.2))
            ∙ ap (λ (s : Shape). s.1) bo.2

    below : (n : Node B) → Held next_state n → n.id.0 < next
    below n (inl at) = follows.is_tree.below at.0 (shape n) (ap (option_map shape) at.1)
    below n (inr at) = let lt = below_so state valid n (inr at) in let le = follows.more in omega arith

    pub valid-followed : IsValid (followed state tree next ids tick)
    valid-followed = record {
      sorted = follows.sorted;
      root = root-from tree next follows.is_tree;
      parents = parents-from tree follows.sorted follows.is_tree.above;
      names = named-from tree follows.sorted follows.is_tree.named;
      each_once = once-from tree follows.sorted follows.is_tree.once;
      one_kind = kinds-from (all_nodes next_state) (λ a b ina inb. kinds a b (held-in next_state follows.sorted valid.copies_sorted a ina) (held-in next_state follows.sorted valid.copies_sorted b inb));
      ids_below = below-from next (all_nodes next_state) (λ n at. below n (held-in next_state follows.sorted valid.copies_sorted n at));
      snapshottable_dirs = dirs-all tree next follows.sorted follows.is_tree ids follows.dirs;
      snapshottable_once = follows.once;
      not_nested = dirs-apart tree next follows.sorted follows.is_tree ids follows.dirs;
      member_dirs = follows.member_dirs;
      member_roots = valid.member_roots;
      copies_sorted = valid.copies_sorted;
      copies_parents = valid.copies_parents;
      copies_names = valid.copies_names;
      copies_each_once = valid.copies_each_once;
      copies_root_on_top = valid.copies_root_on_top;
      snapshots_rise = valid.snapshots_rise;
      snapshots_below = valid.snapshots_below;
      next_snapshot_above = valid.next_snapshot_above;
      ticks_rise = valid.ticks_rise;
      ticks_within = all_from (λ member. nat_le member.tick tick) state.members (λ m at.
          let le : m.tick ≤ state.tick = leb-true m.tick state.tick (all_so (λ member. nat_le member.tick state.tick) state.members valid.ticks_within m at) in
          le-leb m.tick tick (omega arith));
      member_names = valid.member_names;
      different_names = valid.different_names;
      at_most = valid.at_most;
    }
