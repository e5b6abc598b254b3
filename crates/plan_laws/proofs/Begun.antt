-- A sync whose two copies of `from` are equal, and whose target is unchanged since, begins as the laws of a plan want it.
use Rattle.std.proofs.Common.{◌≡◌, inl, inr, ℕ, zero, suc, ◌+◌, ◌<◌, ◌≤◌, ◌^◌, ◌==◌, Bool, true, false, cond, Option, Some, None, Ok, Err, List, [], ◌∷◌, ◌++◌, map, length, take, refl, ap, sym, subst, ◌∙◌, arith}
use Rattle.std.specs.Prelude.{not, nat_lt, bytes_eq}
use Rattle.std.specs.FinMap.Entries.{is_sorted}
use Rattle.std.proofs.lemmas.Bool.Decides.{Decides-eqb, Decides-ltb}
use Rattle.std.proofs.lemmas.List.{length-append}
use Rattle.hs_types.specs.Names.{Names}
use Rattle.hs_types.specs.Paths.{path_of}
use Rattle.hs_types.specs.declared.ids.InodeId.{InodeId}
use Rattle.hs_types.specs.declared.path.Path.{Path}
use Rattle.hs_types.specs.declared.path.PathTail.{PathTail}
use Rattle.hs_types.specs.declared.path.PathTail.TheVariants.{Plain, SnapshotList, Frozen}
use Rattle.hs_types.specs.declared.refusal.Refusal.{Refusal}
use Rattle.hs_types.specs.declared.refusal.Refusal.TheVariants.{NotDir}
use Rattle.hs_types.specs.declared.call.Place.{Place}
use Rattle.hs_types.specs.declared.call.Place.TheVariants as places
use Rattle.hs_plain.specs.declared.state.Node.{Node}
use Rattle.hs_plain.specs.declared.state.Member.{Member}
use Rattle.hs_plain.specs.declared.state.State.{State}
use Rattle.hs_plain.specs.Asked.{Asked, ◌>>=◌, refuse_if}
use Rattle.hs_plain.specs.Files.{plain_files}
use Rattle.hs_plain.specs.Tree.{Tree, path_cmp, node_at, found, walk, walks_above, is_dir, same_inode, place_of, subtree}
use Rattle.hs_plain.specs.State.{is_snapshottable, is_named, member_named, member_with, snapshot_root, resolve_tail, resolve, plain_base}
use Rattle.hs_plain.specs.Modifying.{live_path}
use Rattle.hs_plain.specs.Reading.{directory_there, live_directory, snapshottable_at, copied_tree, tree_below, end_tree}
use Rattle.hs_plain.specs.Report.{report}
use Rattle.hs_plain.specs.Valid.{has_each_once, has_names, rises_above, IsValid, HasSteadyStamps}
use Rattle.hs_plain.specs.Plan.{outs, root_names, AreEqual}
use Rattle.hs_plain.specs.Premises.{SyncAsk, SyncSide, member_at, BeginsEqual, IsUnchanged, state_before}
use Rattle.hs_plain.proofs.ValidTrees.{first, second}
use Rattle.hs_plain.proofs.ValidShapes.{true_false}
use Rattle.hs_plain.proofs.ValidLists.{In, by_test, contains-in, all_so}
use Rattle.hs_plain.proofs.ValidMembers.{inode_so}
use Rattle.hs_plain.proofs.ValidAsked.{same_ok, ok_then}
use Rattle.hs_plain.proofs.Validity.{valid-replay}
use Rattle.hs_plain.proofs.SteadyStamps.{steady_stamps-replay}
use Rattle.plan_laws.specs.Pair.{IsPair, HasSameBytes}
use Rattle.plan_laws.specs.Target.{IsTarget}
use Rattle.plan_laws.specs.Undisturbed.{IsReady, AreWithinLimit}
use Rattle.plan_laws.proofs.Places.{place_of-here}
use Rattle.plan_laws.proofs.Steps.{tree-of}
use Rattle.plan_laws.proofs.Pairs.{members-pair, live-pair}
use Rattle.plan_laws.proofs.Equal.{equal-from}
use Rattle.plan_laws.proofs.Unchanged.{unchanged}
use Rattle.plan_laws.proofs.Temporary.{from-free, to-free}
use Rattle.plan_laws.proofs.Sizes.{ids-few, places-few, names-few, outs-few}

err_ok : {X : Type 0} {why : Refusal} {x : X} → Err why ≡ Ok x → ⊥
err_ok h = cc

not_refused : (b : Bool) (why : Refusal) (u : Unit {0}) → refuse_if b why ≡ Ok u → b ≡ false
not_refused true why u h = absurd (err_ok h)
not_refused false why u h = refl

not_not : (b : Bool) → not b ≡ false → b ≡ true
not_not true h = refl
not_not false h = absurd (true_false refl h)

-- ---- snapshots by name and by id

abbrev IsMember : State (List ℕ) → InodeId → Member (List ℕ) → Type 0
IsMember state dir member = In state.members member × (member.directory ≡ dir)

named-member : (members : List (Member (List ℕ))) (dir : InodeId) (name : List ℕ) (member : Member (List ℕ)) → member_named members dir name ≡ Ok member → In members member × (member.directory ≡ dir)
named-member [] dir name member h = absurd (err_ok h)
named-member (one ∷ members) dir name member h = by_test (is_named dir name one)
    (λ t. let same : one ≡ member = same_ok (sym (ap (λ b. cond {A = Asked (Member (List ℕ))} b (Ok one) (member_named members dir name)) t) ∙ h) in
    (inl same, ap (λ (x : Member (List ℕ)). x.directory) (sym same) ∙ inode_so one.directory dir (first (same_inode one.directory dir) (bytes_eq one.name name) t)))
    (λ f. let rest : In members member × (member.directory ≡ dir) = named-member members dir name member (sym (ap (λ b. cond {A = Asked (Member (List ℕ))} b (Ok one) (member_named members dir name)) f) ∙ h) in
    (inr rest.0, rest.1))

abbrev id_of : Member (List ℕ) → ℕ
id_of member = member.snapshot.0

above-bound : (bound : ℕ) (members : List (Member (List ℕ))) (member : Member (List ℕ)) → rises_above bound (map id_of members) ≡ true → In members member → bound < id_of member
above-bound bound [] member h at = absurd at
above-bound bound (one ∷ members) member h (inl same) = subst (λ (x : Member (List ℕ)). bound < id_of x) same ((Decides-ltb bound (id_of one)).0 (first (nat_lt bound (id_of one)) _ h))
above-bound bound (one ∷ members) member h (inr at) =
    let low : bound < id_of one = (Decides-ltb bound (id_of one)).0 (first (nat_lt bound (id_of one)) _ h) in
    let high : id_of one < id_of member = above-bound (id_of one) members member (second (nat_lt bound (id_of one)) _ h) at in
    omega arith

other-number : (m n : ℕ) → m < n → (m == n) ≡ false
other-number m n less = by_test (m == n) (λ t. let same : m ≡ n = (Decides-eqb m n).0 t in absurd (omega arith)) (λ f. f)

copied-in : (bound : ℕ) (members : List (Member (List ℕ))) (member : Member (List ℕ)) → rises_above bound (map id_of members) ≡ true → In members member → copied_tree members member.snapshot ≡ member.tree
copied-in bound [] member h at = absurd at
copied-in bound (one ∷ members) member h (inl same) =
    ap (λ b. cond b one.tree (copied_tree members member.snapshot)) ((Decides-eqb (id_of one) (id_of member)).1 (ap id_of same)) ∙ ap (λ (x : Member (List ℕ)). x.tree) same
copied-in bound (one ∷ members) member h (inr at) =
    ap (λ b. cond b one.tree (copied_tree members member.snapshot)) (other-number (id_of one) (id_of member) (above-bound (id_of one) members member (second (nat_lt bound (id_of one)) _ h) at))
    ∙ copied-in (id_of one) members member (second (nat_lt bound (id_of one)) _ h) at

-- ---- a snapshottable directory by its text

record IsRoot (state : State (List ℕ)) (text : List ℕ) (dir : InodeId) : Type 0 where
  path : Names
  node : Node (List ℕ)
  leads : live_path text ≡ Ok path
  there : node_at state.tree path ≡ Some node
  same : dir ≡ node.id
  listed : is_snapshottable state dir ≡ true

found-so : (o : Option (Node (List ℕ))) (node : Node (List ℕ)) → found o ≡ Ok node → o ≡ Some node
found-so None node h = absurd (err_ok h)
found-so (Some one) node h = ap (λ x. Some x) (same_ok h)

-- a place that is a live directory is that of a path without `.snapshot`
record IsLive (state : State (List ℕ)) (base : Names) (tail : PathTail) (place : Place) : Type 0 where
  node : Node (List ℕ)
  plain : plain_base base tail ≡ Ok base
  there : node_at state.tree base ≡ Some node
  is : place ≡ places.Live node.id

live-place : (state : State (List ℕ)) (base : Names) (tail : PathTail) (place : Place) (dir : InodeId) → resolve_tail state base tail ≡ Ok place → live_directory state place ≡ Ok dir → IsLive state base tail place
live-place state base Plain place dir h live =
    let walked : (node : Node (List ℕ)) × (walk state.tree base ≡ Ok node) × (Ok (places.Live node.id) ≡ Ok place) = ok_then (walk state.tree base) _ place h in
    let above : (u : Unit {0}) × (walks_above state.tree base ≡ Ok u) × (found (node_at state.tree base) ≡ Ok walked.0) = ok_then (walks_above state.tree base) _ walked.0 walked.1 in
    record { node = walked.0; plain = refl; there = found-so (node_at state.tree base) walked.0 above.2; is = sym (same_ok walked.2) }
live-place state base SnapshotList place dir h live =
    let root : (id : InodeId) × (snapshot_root state base ≡ Ok id) × (Ok (places.SnapshotsOf id) ≡ Ok place) = ok_then (snapshot_root state base) _ place h in
    absurd (err_ok (ap (live_directory state) (same_ok root.2) ∙ live))
live-place state base (Frozen snapshot rest) place dir h live =
    let root = ok_then (snapshot_root state base) _ place h in
    let member = ok_then (member_named state.members root.0 snapshot) _ place root.2 in
    let node = ok_then (walk member.0.tree rest) _ place member.2 in
    let frozen : live_directory state (places.Frozen node.0.id member.0.snapshot) ≡ Ok dir = ap (live_directory state) (same_ok node.2) ∙ live in
    let held = ok_then (member_with state.members member.0.snapshot) _ dir frozen in
    let there = ok_then (directory_there (place_of held.0.tree node.0.id)) _ dir held.2 in
    absurd (err_ok there.2)

directory-so : (place : Names × Node (List ℕ)) (dir : InodeId) → directory_there (Some place) ≡ Ok dir → dir ≡ place.1.id
directory-so place dir h = (elim (is_dir place.1) as (λ b. cond {A = Asked InodeId} b (Ok place.1.id) (Err NotDir) ≡ Ok dir → dir ≡ place.1.id) [
  | true ↦ λ h. sym (same_ok h)
  | false ↦ λ h. absurd (err_ok h)
]) h

root-so : (state : State (List ℕ)) → IsValid state → (text : List ℕ) (dir : InodeId) → snapshottable_at state text ≡ Ok dir → IsRoot state text dir
root-so state valid text dir h =
    let path : (p : Path) × (path_of text ≡ Ok p) × _ = ok_then (path_of text) _ dir h in
    let place : (p : Place) × (resolve state path.0 ≡ Ok p) × _ = ok_then (resolve state path.0) _ dir path.2 in
    let one : (id : InodeId) × (live_directory state place.0 ≡ Ok id) × _ = ok_then (live_directory state place.0) _ dir place.2 in
    let listed = ok_then (refuse_if (not (is_snapshottable state one.0)) _) _ dir one.2 in
    let live : IsLive state path.0.base path.0.tail place.0 = live-place state path.0.base path.0.tail place.0 one.0 place.1 one.1 in
    let same : one.0 ≡ dir = same_ok listed.2 in
    let here : place_of state.tree live.node.id ≡ Some (path.0.base, live.node) = place_of-here state.tree (tree-of state valid) path.0.base live.node live.node.id live.there refl in
    record {
      path = path.0.base;
      node = live.node;
      leads = ap (λ (read : Asked Path). read >>= λ p. plain_base p.base p.tail) path.1 ∙ live.plain;
      there = live.there;
      same = sym same ∙ directory-so (path.0.base, live.node) one.0 (sym (ap directory_there here) ∙ ap (live_directory state) (sym live.is) ∙ one.1);
      listed = ap (is_snapshottable state) (sym same) ∙ not_not (is_snapshottable state one.0) (not_refused (not (is_snapshottable state one.0)) _ listed.0 listed.1);
    }

-- ---- the whole

take-few : {X : Type 0} (n : ℕ) (xs : List X) → length (take n xs) ≤ length xs
take-few zero xs = omega arith
take-few (suc n) [] = omega arith
take-few (suc n) (x ∷ xs) = let rest : length (take n xs) ≤ length xs = take-few n xs in omega arith

module _ (ask : SyncAsk) (source target : SyncSide) (limits : AreWithinLimit source target) (begins : BeginsEqual ask (state_before source) (state_before target)) (still : IsUnchanged (state_before target) begins.base) where
  abbrev from : Tree (List ℕ)
  from = begins.from.tree

  abbrev to : Tree (List ℕ)
  to = begins.to.tree

  abbrev base : Tree (List ℕ)
  base = begins.base.tree

  valid : (side : SyncSide) → IsValid (state_before side)
  valid side = valid-replay plain_files (take side.span.low side.journal)

  steady : (side : SyncSide) → HasSteadyStamps (state_before side)
  steady side = steady_stamps-replay plain_files (take side.span.low side.journal)

  -- the directory of a snapshot that was found
  record IsFound (side : SyncSide) (text : List ℕ) (member : Member (List ℕ)) : Type 0 where
    dir : InodeId
    asked : snapshottable_at (state_before side) text ≡ Ok dir
    among : In (state_before side).members member
    same : member.directory ≡ dir

  found-at : (side : SyncSide) (text name : List ℕ) (member : Member (List ℕ)) → member_at (state_before side) text name ≡ Ok member → IsFound side text member
  found-at side text name member h =
      let dir : (dir : InodeId) × (snapshottable_at (state_before side) text ≡ Ok dir) × (member_named (state_before side).members dir name ≡ Ok member) = ok_then (snapshottable_at (state_before side) text) _ member h in
      let named : In (state_before side).members member × (member.directory ≡ dir.0) = named-member (state_before side).members dir.0 name member dir.2 in
      record { dir = dir.0; asked = dir.1; among = named.0; same = named.1 }

  from_at : IsFound source ask.source_root begins.from
  from_at = found-at source ask.source_root ask.from begins.from begins.has_from

  to_at : IsFound source ask.source_root begins.to
  to_at = found-at source ask.source_root ask.to begins.to begins.has_to

  base_at : IsFound target ask.target_root begins.base
  base_at = found-at target ask.target_root ask.from begins.base begins.has_base

  one_directory : begins.from.directory ≡ begins.to.directory
  one_directory = from_at.same ∙ same_ok (sym from_at.asked ∙ to_at.asked) ∙ sym to_at.same

  pairs : IsPair from to × HasSameBytes from to
  pairs = members-pair (state_before source) (valid source) (steady source) begins.from begins.to (contains-in (state_before source).members begins.from from_at.among) (contains-in (state_before source).members begins.to to_at.among) one_directory

  -- ---- sizes

  member-few : (side : SyncSide) → length side.journal ≤ 1000000 → (member : Member (List ℕ)) → In (state_before side).members member → length member.tree ≤ 1000002
  member-few side within member at =
      let places : length member.tree ≤ (state_before side).next_inode = places-few (state_before side) (valid side) member.tree
      (all_so (λ (one : Member (List ℕ)). is_sorted path_cmp one.tree) (state_before side).members (valid side).copies_sorted member at)
      (all_so (λ (one : Member (List ℕ)). has_each_once one.tree) (state_before side).members (valid side).copies_each_once member at)
      (λ q n there. inr (member, at, (q, there))) in
      let ids : (state_before side).next_inode ≤ 2 + length (take side.span.low side.journal) = ids-few (take side.span.low side.journal) in
      let part : length (take side.span.low side.journal) ≤ length side.journal = take-few side.span.low side.journal in
      omega arith

  few-names : length (root_names base ++ root_names to) < 2 ^ 64
  few-names =
      let both_names : length (root_names base ++ root_names to) ≡ length (root_names base) + length (root_names to) = length-append (root_names base) (root_names to) in
      let base_names : length (root_names base) ≤ length base = names-few base in
      let to_names : length (root_names to) ≤ length to = names-few to in
      let base_few : length base ≤ 1000002 = member-few target limits.target_few begins.base base_at.among in
      let to_few : length to ≤ 1000002 = member-few source limits.source_few begins.to to_at.among in
      omega arith

  few-outs : length (outs from to) ≤ 2 ^ 64
  few-outs =
      let few : length (outs from to) ≤ length from = outs-few from to in
      let from_few : length from ≤ 1000002 = member-few source limits.source_few begins.from from_at.among in
      omega arith

  -- ---- the target

  root : IsRoot (state_before target) ask.target_root base_at.dir
  root = root-so (state_before target) (valid target) ask.target_root base_at.dir base_at.asked

  abbrev live : Tree (List ℕ)
  live = subtree (state_before target).tree root.path

  its_directory : begins.base.directory ≡ root.node.id
  its_directory = base_at.same ∙ root.same

  live_pairs : IsPair base live × HasSameBytes base live
  live_pairs = live-pair (state_before target) (valid target) (steady target) begins.base (contains-in (state_before target).members begins.base base_at.among) root.path root.node root.there its_directory

  base_end : end_tree (state_before target) begins.base.directory begins.base.snapshot ≡ base
  base_end =
      ap (λ b. cond b (tree_below (state_before target).tree (place_of (state_before target).tree begins.base.directory)) (copied_tree (state_before target).members begins.base.snapshot)) not_now
      ∙ copied-in 0 (state_before target).members begins.base (valid target).snapshots_rise base_at.among
    where
      above : 0 < id_of begins.base
      above = above-bound 0 (state_before target).members begins.base (valid target).snapshots_rise base_at.among

      not_now : (id_of begins.base == 0) ≡ false
      not_now = by_test (id_of begins.base == 0) (λ t. let same : id_of begins.base ≡ 0 = (Decides-eqb (id_of begins.base) 0).0 t in let high : 0 < id_of begins.base = above in absurd (omega arith)) (λ f. f)

  live_end : tree_below (state_before target).tree (place_of (state_before target).tree begins.base.directory) ≡ live
  live_end = ap (tree_below (state_before target).tree) (place_of-here (state_before target).tree (tree-of (state_before target) (valid target)) root.path root.node begins.base.directory root.there (ap (λ (id : InodeId). id.0) its_directory))

  no_lines : report base live ≡ []
  no_lines = (λ i. report (sym base_end i) (sym live_end i)) ∙ still

  target_equal : AreEqual from live
  target_equal = begins.equal ∙ equal-from base live live_pairs.0.from_tree.sorted live_pairs.0.to_tree.sorted (unchanged base live live_pairs.0 live_pairs.1 no_lines)

  is-target : IsTarget (state_before target) ask.target_root root.path from
  is-target = record {
    valid = valid target;
    leads = root.leads;
    node = root.node;
    there = root.there;
    snapshottable = ap (is_snapshottable (state_before target)) (sym root.same) ∙ root.listed;
    equal = target_equal;
  }

  pub is-ready : IsReady ask (state_before source) (state_before target) begins
  is-ready = record {
    pair = pairs.0;
    same_bytes = pairs.1;
    to_names = all_so (λ (member : Member (List ℕ)). has_names member.tree) (state_before source).members (valid source).copies_names begins.to to_at.among;
    from_free = from-free from to base begins.equal few-names;
    to_free = to-free from to base begins.equal few-names;
    few_outs = few-outs;
    root = root.path;
    is_target = is-target;
  }
