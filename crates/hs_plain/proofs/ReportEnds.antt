-- The ends of a report: a directory's own snapshots stay its own, with their trees, until they are deleted.
use Rattle.std.proofs.Common.{◌≡◌, ℕ, ◌≤◌, not, Bool, true, false, cond, ◌&&◌, ◌||◌, ◌==◌, Option, Some, None, Ok, Err, List, [], ◌∷◌, take, refl, ap, sym, ◌∙◌, inl, inr, arith}
use Rattle.std.specs.Prelude.{bytes_eq}
use Rattle.std.specs.List.{list_any}
use Rattle.std.proofs.lemmas.Bool.Decides.{nat_tests}
use Rattle.hs_types.specs.declared.ids.InodeId.{InodeId}
use Rattle.hs_types.specs.declared.ids.SnapId.{SnapId}
use Rattle.hs_types.specs.declared.call.Point.{Point}
use Rattle.hs_types.specs.declared.call.Point.TheVariants.{Snapshot, Now}
use Rattle.hs_types.specs.declared.journal.Entry.{Entry}
use Rattle.hs_plain.specs.declared.state.Node.{Node}
use Rattle.hs_plain.specs.declared.state.Member.{Member}
use Rattle.hs_plain.specs.declared.state.State.{State}
use Rattle.hs_types.specs.Names.{Names}
use Rattle.hs_plain.specs.Asked.{Asked}
use Rattle.hs_plain.specs.Tree.{same_inode, place_of, subtree}
use Rattle.hs_plain.specs.State.{is_snapshottable, member_with, is_named, snapshot_named}
use Rattle.hs_plain.specs.Reading.{is_live, is_deleted, point_id, copied_tree, tree_below, end_tree, lines_between, is_foreign}
use Rattle.hs_plain.specs.Report.{report}
use Rattle.hs_plain.specs.Replay.{plain_after}
use Rattle.hs_plain.specs.Valid.{IsValid}
use Rattle.hs_plain.specs.Frozen.{unnamed}
use Rattle.hs_plain.proofs.Facts.{okay, ok_of}
use Rattle.hs_plain.proofs.ValidTrees.{first, second}
use Rattle.hs_plain.proofs.ValidLists.{In, any_so, any_from}
use Rattle.hs_plain.proofs.ValidMembers.{inode_so, one_by}
use Rattle.hs_plain.proofs.SameTree.{report-self, once-subtree}
use Rattle.hs_plain.proofs.Paged.{live-found, is_found, with_all, was_there}

-- ---- ids that are 0

pub zero_test : (n : ℕ) → (n == 0) ≡ true → n ≡ 0
zero_test n e = grind (arith, nat_tests)

same_number : (a b : ℕ) → (a == b) ≡ true → a ≡ b
same_number a b e = grind (arith, nat_tests)

number_same : (a b : ℕ) → a ≡ b → (a == b) ≡ true
number_same a b e = grind (arith, nat_tests)

not_so : (b : Bool) → not b ≡ false → b ≡ true
not_so true e = refl
not_so false e = absurd (cc)

and_false : (b : Bool) → (b && false) ≡ false
and_false true = refl
and_false false = refl

second_false : (a b : Bool) → (a && b) ≡ false → a ≡ true → b ≡ false
second_false true b e a_is = e
second_false false b e a_is = absurd (cc)

-- ---- members

module _ {B : Type 0} where
  abbrev id_of : Member B → ℕ
  id_of member = member.snapshot.0

  -- what is found is among the snapshots, and has the id
  record IsFound (ms : List (Member B)) (snapshot : SnapId) (m : Member B) : Type 0 where
    among : In ms m
    same : (m.snapshot.0 == snapshot.0) ≡ true

  found_so : (ms : List (Member B)) (snapshot : SnapId) (m : Member B) → member_with ms snapshot ≡ Ok m → IsFound ms snapshot m
  found_so [] snapshot m is = absurd (cc)
  found_so (n ∷ ms) snapshot m is = by (n.snapshot.0 == snapshot.0) refl (found_so ms snapshot m)
    where
      by : (b : Bool) → (n.snapshot.0 == snapshot.0) ≡ b → (member_with ms snapshot ≡ okay m → IsFound ms snapshot m) → IsFound (n ∷ ms) snapshot m
      by true e below =
          let same : n ≡ m = ok_of n m (sym (ap (λ b. cond b (okay n) (member_with ms snapshot)) e) ∙ is) in
          record { among = inl same; same = ap (λ (x : Member B). x.snapshot.0 == snapshot.0) (sym same) ∙ e }
      by false e below =
          let rest : IsFound ms snapshot m = below (sym (ap (λ b. cond b (okay n) (member_with ms snapshot)) e) ∙ is) in
          record { among = inr rest.among; same = rest.same }

  pub record Finds (ms : List (Member B)) (snapshot : SnapId) : Type 0 where
    pub member : Member B
    pub found : member_with ms snapshot ≡ Ok member

  finds_by : (ms : List (Member B)) (snapshot : SnapId) (asked : Asked (Member B)) → member_with ms snapshot ≡ asked → is_found asked ≡ true → Finds ms snapshot
  finds_by ms snapshot (Ok m) is found = record { member = m; found = is }
  finds_by ms snapshot (Err why) is found = absurd (cc)

  pub finds : (ms : List (Member B)) (snapshot : SnapId) → is_live ms snapshot ≡ true → Finds ms snapshot
  finds ms snapshot live = finds_by ms snapshot (member_with ms snapshot) refl (sym (live-found ms snapshot) ∙ live)

  pub copied-with : (ms : List (Member B)) (snapshot : SnapId) (m : Member B) → member_with ms snapshot ≡ Ok m → copied_tree ms snapshot ≡ m.tree
  copied-with [] snapshot m is = absurd (cc)
  copied-with (n ∷ ms) snapshot m is =
      elim (n.snapshot.0 == snapshot.0) as (λ b. cond b (okay n) (member_with ms snapshot) ≡ okay m → cond b n.tree (copied_tree ms snapshot) ≡ m.tree) [
        | true ↦ λ e. ap (λ (x : Member B). x.tree) (ok_of n m e)
        | false ↦ copied-with ms snapshot m
      ] is

  -- ---- a directory's own snapshots

  abbrev is_own : InodeId → SnapId → Member B → Bool
  is_own root end member = member.snapshot.0 == end.0 && same_inode member.directory root

  -- an end that is a snapshot of this directory
  pub record OwnEnd (state : State B) (root : InodeId) (end : SnapId) : Type 0 where
    pub member : Member B
    pub found : member_with state.members end ≡ Ok member
    pub own : same_inode member.directory root ≡ true

  pub own_end : (state : State B) (root : InodeId) (end : SnapId) → IsValid state → (end.0 == 0) ≡ false → is_foreign state root end ≡ false → OwnEnd state root end
  own_end state root end valid nonzero ours =
      let any : list_any (is_own root end) state.members ≡ true = not_so _ (second_false (not (end.0 == 0)) (not (list_any (is_own root end) state.members)) ours (ap not nonzero)) in
      let one : (m : Member B) × (In state.members m) × (is_own root end m ≡ true) = any_so (is_own root end) state.members any in
      let numbered : (one.0.snapshot.0 == end.0) ≡ true = first (one.0.snapshot.0 == end.0) (same_inode one.0.directory root) one.2 in
      let got : Finds state.members end = finds state.members end (any_from (λ member. member.snapshot.0 == end.0) state.members one.0 one.1 numbered) in
      let so : IsFound state.members end got.member = found_so state.members end got.member got.found in
      let same : got.member ≡ one.0 = one_by id_of state.members 0 valid.snapshots_rise got.member one.0 so.among one.1 (same_number got.member.snapshot.0 end.0 so.same ∙ sym (same_number one.0.snapshot.0 end.0 numbered)) in
      record { member = got.member; found = got.found; own = ap (λ (m : Member B). same_inode m.directory root) same ∙ second (one.0.snapshot.0 == end.0) (same_inode one.0.directory root) one.2 }

  pub not_foreign : (state : State B) (root : InodeId) (end : SnapId) → OwnEnd state root end → is_foreign state root end ≡ false
  not_foreign state root end own =
      let so : IsFound state.members end own.member = found_so state.members end own.member own.found in
      ap (λ b. not (end.0 == 0) && not b) (any_from (is_own root end) state.members own.member so.among (ap (λ b. b && same_inode own.member.directory root) so.same ∙ own.own))
      ∙ and_false (not (end.0 == 0))

  -- the directory of a snapshot is snapshottable
  pub own_snapshottable : (state : State B) (root : InodeId) (end : SnapId) → IsValid state → OwnEnd state root end → is_snapshottable state root ≡ true
  own_snapshottable state root end valid own =
      ap (is_snapshottable state) (sym (inode_so own.member.directory root own.own)) ∙ with_all (λ (member : Member B). is_snapshottable state member.directory) state.members end own.member valid.member_dirs own.found

  -- a name of a snapshot leads to a snapshot of the directory
  named_own : (ms : List (Member B)) (dir : InodeId) (name : List ℕ) (end : SnapId) → snapshot_named ms dir name ≡ Ok end → list_any (is_own dir end) ms ≡ true
  named_own [] dir name end is = absurd (cc)
  named_own (m ∷ ms) dir name end is = by (is_named dir name m) refl (named_own ms dir name end)
    where
      or_second : (a : Bool) → (a || true) ≡ true
      or_second true = refl
      or_second false = refl

      by : (b : Bool) → is_named dir name m ≡ b → (snapshot_named ms dir name ≡ okay end → list_any (is_own dir end) ms ≡ true) → (is_own dir end m || list_any (is_own dir end) ms) ≡ true
      by true e below =
          let same : m.snapshot ≡ end = ok_of m.snapshot end (sym (ap (λ b. cond b (okay m.snapshot) (snapshot_named ms dir name)) e) ∙ is) in
          ap (λ b. (b && same_inode m.directory dir) || list_any (is_own dir end) ms) (number_same m.snapshot.0 end.0 (ap (λ (s : SnapId). s.0) same))
          ∙ ap (λ b. b || list_any (is_own dir end) ms) (first (same_inode m.directory dir) (bytes_eq m.name name) e)
      by false e below = ap (λ b. is_own dir end m || b) (below (sym (ap (λ b. cond b (okay m.snapshot) (snapshot_named ms dir name)) e) ∙ is)) ∙ or_second (is_own dir end m)

  pub point_own : (state : State B) (root : InodeId) (point : Point) (end : SnapId) → point_id state root point ≡ Ok end → is_foreign state root end ≡ false
  point_own state root (Snapshot name) end is = ap (λ b. not (end.0 == 0) && not b) (named_own state.members root name end is) ∙ and_false (not (end.0 == 0))
  point_own state root Now end is = ap (λ (s : SnapId). is_foreign state root s) (sym (ok_of (record { 0 = 0 }) end is))

-- ---- later states

-- a snapshot that isn't deleted is still the directory's, and has its tree
pub record StillOwn (now later : State (List ℕ)) (root : InodeId) (end : SnapId) : Type 0 where
  pub own : OwnEnd later root end
  pub same : copied_tree later.members end ≡ copied_tree now.members end

pub still_own : (journal : List Entry) (n m : ℕ) (root : InodeId) (end : SnapId) → n ≤ m → (end.0 == 0) ≡ false → OwnEnd (plain_after (take n journal)) root end → is_deleted (plain_after (take m journal)) end ≡ false →
    StillOwn (plain_after (take n journal)) (plain_after (take m journal)) root end
still_own journal n m root end le nonzero was isnt =
    let now : State (List ℕ) = plain_after (take n journal) in
    let later : State (List ℕ) = plain_after (take m journal) in
    let got : Finds later.members end = finds later.members end (not_so _ (second_false (not (end.0 == 0)) (not (is_live later.members end)) isnt (ap not nonzero))) in
    let same : unnamed was.member ≡ unnamed got.member = was_there journal n m end was.member got.member le was.found got.found in
    record {
      own = record { member = got.member; found = got.found; own = ap (λ (x : Member (List ℕ)). same_inode x.directory root) (sym same) ∙ was.own };
      same = copied-with later.members end got.member got.found ∙ ap (λ (x : Member (List ℕ)). x.tree) (sym same) ∙ sym (copied-with now.members end was.member was.found);
    }

-- ---- from the current state to itself

tree_below_self : (state : State (List ℕ)) → IsValid state → (place : Option (Names × Node (List ℕ))) → report (tree_below state.tree place) (tree_below state.tree place) ≡ []
tree_below_self state valid None = refl
tree_below_self state valid (Some place) = report-self (subtree state.tree place.0) (once-subtree state.tree place.0 valid.sorted valid.each_once)

pub nothing_now : (state : State (List ℕ)) (root : InodeId) (from to : SnapId) → IsValid state → (from.0 == 0) ≡ true → (to.0 == 0) ≡ true → lines_between state root from to ≡ []
nothing_now state root from to valid from_now to_now =
    ap (λ b. report (cond b (tree_below state.tree (place_of state.tree root)) (copied_tree state.members from)) (end_tree state root to)) from_now
    ∙ ap (λ b. report (tree_below state.tree (place_of state.tree root)) (cond b (tree_below state.tree (place_of state.tree root)) (copied_tree state.members to))) to_now
    ∙ tree_below_self state valid (place_of state.tree root)
