-- What a valid state gives.
use Rattle.std.proofs.Common.{◌≡◌, ℕ, zero, suc, ◌<◌, Bool, true, false, cond, List, [], ◌∷◌, map, Option, Some, None, refl, sym, ap, ◌∙◌, length, get_or, arith}
use Rattle.std.specs.Prelude.{not, ◌||◌, ◌==◌, nat_lt}
use Rattle.std.specs.List.{Contains, list_all, list_any}
use Rattle.std.proofs.lemmas.Bool.Decides.{Decides-eqb, Decides-ltb, nat_tests}
use Rattle.std.specs.FinMap.Entries.{is_sorted}
use Rattle.hs_types.specs.Names.{Names}
use Rattle.hs_types.specs.declared.ids.InodeId.{InodeId}
use Rattle.hs_plain.specs.declared.state.Node.{Node}
use Rattle.hs_plain.specs.declared.state.Member.{Member}
use Rattle.hs_plain.specs.declared.state.State.{State}
use Rattle.hs_plain.specs.declared.state.FileBlocks.{FileBlocks}
use Rattle.hs_plain.specs.Tree.{Tree, path_cmp, node_at, is_root_path, same_inode, place_of}
use Rattle.hs_plain.specs.State.{is_snapshottable}
use Rattle.hs_plain.specs.Valid.{IsValid, has_parents, has_parent, has_each_once, is_dir_node, is_dir_with, is_dir_place, has_root_on_top, rises_above}
use Rattle.hs_plain.proofs.ValidTrees.{first, second}
use Rattle.hs_plain.proofs.ValidShapes.{parent_of-last, same_some, true_false}
use Rattle.hs_plain.proofs.ValidPlaces.{place_passes, one_place, head_at, in_tail}
use Rattle.inode_table.specs.Reads.{IsNodes, Has, child}
use Rattle.inode_table.specs.Marks.{RowMarks, InCopy, IsTop}
use Rattle.inode_table.specs.Stands.{root_id}
use Rattle.inode_table.specs.FromValid.{GivesNodes}
use Rattle.inode_table.proofs.Reading.{same_id_so}

pub all_at : {X : Type 0} (test : X → Bool) (xs : List X) (x : X) → list_all test xs ≡ true → Contains xs x → test x ≡ true
all_at {X = X} test xs x all within = at xs within.0 within.1 within.2 all
  where
    at : (xs : List X) (k : ℕ) → k < length xs → get_or xs k x ≡ x → list_all test xs ≡ true → test x ≡ true
    at [] k lt e all = absurd (omega arith)
    at (y ∷ ys) zero lt e all = ap test (sym e) ∙ first (test y) _ all
    at (y ∷ ys) (suc k) lt e all = at ys k (omega arith) e (second (test y) _ all)

module _ {B : Type 0} where
  some_node : (o : Option (Node B)) → is_dir_node o ≡ true → (n : Node B) × (o ≡ Some n)
  some_node None h = absurd (true_false h refl)
  some_node (Some n) h = (n, refl)

  parent_test : (t : Tree B) (p : Names) (name : List ℕ) → has_parent t (child p name) ≡ true → is_dir_node (node_at t p) ≡ true
  parent_test t [] name h = h
  parent_test t (a ∷ p) name h = ap (λ (q : Names). is_dir_node (node_at t q)) (sym (parent_of-last (a ∷ p) name)) ∙ h

  pub nodes-valid : (t : Tree B) → has_parents t ≡ true → has_each_once t ≡ true → IsNodes (node_at t)
  nodes-valid t parents once = record {
    above = λ p x name h. some_node (node_at t p) (parent_test t p name (place_passes (λ place. has_parent t place.0) t parents (child p name) x h));
    once = λ p q a b h k e. one_place t once p q a b h k (ap (λ (i : InodeId). i.0) e);
  }

  -- a place that is found by its id
  found_place : (t : Tree B) (id : InodeId) → is_sorted path_cmp t ≡ true → is_dir_place (place_of t id) ≡ true → Has (node_at t) id
  found_place [] id sorted h = absurd (true_false h refl)
  found_place (e ∷ es) id sorted h = elim (same_inode e.1.id id) as (λ b. same_inode e.1.id id ≡ b → is_dir_place (cond b (Some e) (place_of es id)) ≡ true → Has (node_at (e ∷ es)) id) [
    | true ↦ λ t _. record { at = e.0; node = e.1; is = head_at e es; named = same_id_so e.1.id id ((Decides-eqb e.1.id.0 id.0).0 t) }
    | false ↦ λ _ g. let k = found_place es id (second _ _ sorted) g in record { at = k.at; node = k.node; is = in_tail e es k.at k.node (first _ _ sorted) k.is; named = k.named }
  ] refl h

any_id : (ids : List InodeId) (id : InodeId) → list_any (same_inode id) ids ≡ true → Contains ids id
any_id [] id h = absurd (true_false h refl)
any_id (i ∷ ids) id h = elim (same_inode id i) as (λ b. same_inode id i ≡ b → (b || list_any (same_inode id) ids) ≡ true → Contains (i ∷ ids) id) [
  | true ↦ λ t _. (0, omega arith, sym (same_id_so id i ((Decides-eqb id.0 i.0).0 t)))
  | false ↦ λ _ g. let k = any_id ids id g in later i ids id k
] refl h
  where
    later : (i : InodeId) (ids : List InodeId) (id : InodeId) → Contains ids id → Contains (i ∷ ids) id
    later i ids id k = (suc k.0, (let lt = k.1 in omega arith), k.2)

pub from-valid : (state : State FileBlocks) → IsValid state → GivesNodes state
from-valid state valid = record {
  live = nodes-valid state.tree valid.parents valid.each_once;
  copies = λ m is_live. nodes-valid m.tree (all_at (λ (o : Member FileBlocks). has_parents o.tree) state.members m valid.copies_parents is_live) (all_at (λ (o : Member FileBlocks). has_each_once o.tree) state.members m valid.copies_each_once is_live);
  dirs = λ m is_live. found_place state.tree m.directory valid.sorted (all_at (λ id. is_dir_place (place_of state.tree id)) state.snapshottable m.directory valid.snapshottable_dirs
      (any_id state.snapshottable m.directory (all_at (λ (o : Member FileBlocks). is_snapshottable state o.directory) state.members m valid.member_dirs is_live)));
}

root_so : (p : Names) → is_root_path p ≡ true → p ≡ []
root_so [] h = refl
root_so (name ∷ p) h = absurd (true_false h refl)

above_all : {B : Type 0} (low : ℕ) (ms : List (Member B)) (m : Member B) (k : ℕ) → rises_above low (map (λ (o : Member B). o.snapshot.0) ms) ≡ true → k < length ms → get_or ms k m ≡ m → low < m.snapshot.0
above_all low [] m k rise lt e = absurd (omega arith)
above_all low (o ∷ ms) m zero rise lt e = let here : nat_lt low o.snapshot.0 ≡ true = first (nat_lt low o.snapshot.0) _ rise in let same : o.snapshot.0 ≡ m.snapshot.0 = ap (λ (x : Member _). x.snapshot.0) e in grind (arith, nat_tests)
above_all low (o ∷ ms) m (suc k) rise lt e =
    let here : low < o.snapshot.0 = (Decides-ltb low o.snapshot.0).0 (first (nat_lt low o.snapshot.0) _ rise) in
    let rest : o.snapshot.0 < m.snapshot.0 = above_all o.snapshot.0 ms m k (second (nat_lt low o.snapshot.0) _ rise) (omega arith) e in omega arith

pub top-valid : (state : State FileBlocks) (marks : RowMarks) → IsValid state → (marks root_id).since ≡ 0 → IsTop state.members marks root_id
top-valid state marks valid since = record {
  own = own;
  above = λ m is_live. above_all 0 state.members m is_live.0 valid.snapshots_rise is_live.1 is_live.2;
  since = since;
}
  where
    by_root : (b : Bool) (p : Names) (id : ℕ) → is_root_path p ≡ b → (b || not (id == 1)) ≡ true → id ≡ 1 → p ≡ []
    by_root true p id e h one = root_so p e
    by_root false p id e h one = absurd (true_false h (ap not ((Decides-eqb id 1).1 one)))

    dir_is : (m : Member FileBlocks) (o : Option (Node FileBlocks)) (n : Node FileBlocks) → o ≡ Some n → is_dir_with m.directory o ≡ true → n.id ≡ m.directory
    dir_is m None n e h = absurd (true_false h refl)
    dir_is m (Some k) n e h = same_id_so n.id m.directory (ap (λ (x : Node FileBlocks). x.id.0) (sym (same_some e)) ∙ (Decides-eqb k.id.0 m.directory.0).0 (first (same_inode k.id m.directory) _ h))

    own : (m : Member FileBlocks) → Contains state.members m → InCopy m root_id → m.directory ≡ root_id
    own m is_live h =
        let test = place_passes (λ place. is_root_path place.0 || not (place.1.id.0 == 1)) m.tree (all_at (λ (o : Member FileBlocks). has_root_on_top o.tree) state.members m valid.copies_root_on_top is_live) h.at h.node h.is in
        let at : h.at ≡ [] = by_root (is_root_path h.at) h.at h.node.id.0 refl test (ap (λ (i : InodeId). i.0) h.named) in
        sym (dir_is m (node_at m.tree []) h.node (ap (node_at m.tree) (sym at) ∙ h.is) (all_at (λ (o : Member FileBlocks). is_dir_with o.directory (node_at o.tree [])) state.members m valid.member_roots is_live)) ∙ h.named
