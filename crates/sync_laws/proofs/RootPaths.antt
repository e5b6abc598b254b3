-- A text that leads to a snapshottable directory: its path, and back.
use Rattle.std.proofs.Common.{◌≡◌, ℕ, Bool, true, false, cond, Option, Some, None, Ok, Err, List, [], ◌∷◌, ◌++◌, refl, ap, sym, ◌∙◌, append_assoc}
use Rattle.std.specs.Prelude.{not}
use Rattle.std.specs.Option.{option_map}
use Rattle.std.proofs.lemmas.Bool.Decides.{Decides-eqb}
use Rattle.hs_types.specs.Names.{Names}
use Rattle.hs_types.specs.Paths.{path_of}
use Rattle.hs_types.specs.declared.ids.InodeId.{InodeId}
use Rattle.hs_types.specs.declared.path.Path.{Path}
use Rattle.hs_types.specs.declared.path.PathTail.{PathTail}
use Rattle.hs_types.specs.declared.path.PathTail.TheVariants.{Plain, SnapshotList, Frozen}
use Rattle.hs_types.specs.declared.refusal.Refusal.{Refusal}
use Rattle.hs_types.specs.declared.refusal.Refusal.TheVariants.{NotDir, NotSnapshottable}
use Rattle.hs_types.specs.declared.call.Place.{Place}
use Rattle.hs_types.specs.declared.call.Place.TheVariants as places
use Rattle.hs_plain.specs.declared.state.Node.{Node}
use Rattle.hs_plain.specs.declared.state.State.{State}
use Rattle.hs_plain.specs.Asked.{Asked, ◌>>=◌, refuse_if}
use Rattle.hs_plain.specs.Tree.{Tree, node_at, passes, walks_from, walks_above, found, walk, is_dir, same_inode, place_of}
use Rattle.hs_plain.specs.State.{is_snapshottable, member_named, member_with, snapshot_root, resolve_tail, resolve, plain_base, plain_of}
use Rattle.hs_plain.specs.Modifying.{live_path}
use Rattle.hs_plain.specs.Reading.{directory_there, live_directory, snapshottable_at}
use Rattle.hs_plain.specs.Valid.{IsValid}
use Rattle.hs_plain.proofs.ValidShapes.{Shape, IsTree, is_dir_shape, true_false, there_above}
use Rattle.hs_plain.proofs.ValidLists.{In, any_from}
use Rattle.hs_plain.proofs.ValidMembers.{inode_so, inode_test}
use Rattle.hs_plain.proofs.ValidNodes.{shape, shapes, shape_some}
use Rattle.hs_plain.proofs.ValidDirs.{listed_so}
use Rattle.hs_plain.proofs.ValidFollows.{live_tree, live_dirs}
use Rattle.hs_plain.proofs.ValidAsked.{same_ok, ok_then}
use Rattle.plan_laws.proofs.Places.{place_of-here}
use Rattle.plan_laws.proofs.Roots.{IsRootAt}
use Rattle.plan_laws.proofs.Steps.{tree-of}

err_ok : {X : Type 0} {why : Refusal} {x : X} → Err why ≡ Ok x → ⊥
err_ok h = cc

not_refused : (b : Bool) (why : Refusal) (u : Unit {0}) → refuse_if b why ≡ Ok u → b ≡ false
not_refused true why u h = absurd (err_ok h)
not_refused false why u h = refl

not_not : (b : Bool) → not b ≡ false → b ≡ true
not_not true h = refl
not_not false h = absurd (true_false refl h)

-- a text leads to a path at which there is a snapshottable directory
pub record LeadsTo (state : State (List ℕ)) (text : List ℕ) (dir : InodeId) : Type 0 where
  pub path : Names
  pub leads : live_path text ≡ Ok path
  pub at : IsRootAt state path dir

-- ---- from the text

found-so : (o : Option (Node (List ℕ))) (node : Node (List ℕ)) → found o ≡ Ok node → o ≡ Some node
found-so None node h = absurd (err_ok h)
found-so (Some one) node h = ap (λ x. Some x) (same_ok h)

-- a place that is a live directory is that of a path without `.snapshot`
record IsLive (state : State (List ℕ)) (base : Names) (tail : PathTail) (place : Place) : Type 0 where
  node : Node (List ℕ)
  plain : plain_base base tail ≡ Ok base
  there : node_at state.tree base ≡ Some node
  is : place ≡ places.Live node.id

live-place : (state : State (List ℕ)) (base : Names) (tail : PathTail) (place : Place) (dir : InodeId) → resolve_tail state base tail ≡ Ok place → live_directory state place ≡ Ok dir → IsLive state base tail place
live-place state base Plain place dir h live =
    let walked : (node : Node (List ℕ)) × (walk state.tree base ≡ Ok node) × (Ok (places.Live node.id) ≡ Ok place) = ok_then (walk state.tree base) _ place h in
    let above : (u : Unit {0}) × (walks_above state.tree base ≡ Ok u) × (found (node_at state.tree base) ≡ Ok walked.0) = ok_then (walks_above state.tree base) _ walked.0 walked.1 in
    record { node = walked.0; plain = refl; there = found-so (node_at state.tree base) walked.0 above.2; is = sym (same_ok walked.2) }
live-place state base SnapshotList place dir h live =
    let root : (id : InodeId) × (snapshot_root state base ≡ Ok id) × (Ok (places.SnapshotsOf id) ≡ Ok place) = ok_then (snapshot_root state base) _ place h in
    absurd (err_ok (ap (live_directory state) (same_ok root.2) ∙ live))
live-place state base (Frozen snapshot rest) place dir h live =
    let root = ok_then (snapshot_root state base) _ place h in
    let member = ok_then (member_named state.members root.0 snapshot) _ place root.2 in
    let node = ok_then (walk member.0.tree rest) _ place member.2 in
    let frozen : live_directory state (places.Frozen node.0.id member.0.snapshot) ≡ Ok dir = ap (live_directory state) (same_ok node.2) ∙ live in
    let held = ok_then (member_with state.members member.0.snapshot) _ dir frozen in
    let there = ok_then (directory_there (place_of held.0.tree node.0.id)) _ dir held.2 in
    absurd (err_ok there.2)

directory-so : (place : Names × Node (List ℕ)) (dir : InodeId) → directory_there (Some place) ≡ Ok dir → dir ≡ place.1.id
directory-so place dir h = (elim (is_dir place.1) as (λ b. cond {A = Asked InodeId} b (Ok place.1.id) (Err NotDir) ≡ Ok dir → dir ≡ place.1.id) [
  | true ↦ λ h. sym (same_ok h)
  | false ↦ λ h. absurd (err_ok h)
]) h

-- a node with the id of a snapshottable directory is it
root-at : (state : State (List ℕ)) → IsValid state → (path : Names) (node : Node (List ℕ)) (dir : InodeId) → node_at state.tree path ≡ Some node → dir ≡ node.id → is_snapshottable state dir ≡ true → IsRootAt state path dir
root-at state valid path node dir there same listed =
    let at : In state.snapshottable dir = listed_so state.snapshottable dir listed in
    let d : (p : Names) × (shapes state.tree p ≡ Some (dir.0, true)) = (live_dirs state valid).there dir at in
    let one : path ≡ d.0 = (live_tree state valid).once path d.0 (shape node) (dir.0, true) (ap (option_map shape) there) d.1 (ap (λ (id : InodeId). id.0) (sym same)) in
    (ap (shapes state.tree) one ∙ d.1, at)

pub root-so : (state : State (List ℕ)) → IsValid state → (text : List ℕ) (dir : InodeId) → snapshottable_at state text ≡ Ok dir → LeadsTo state text dir
root-so state valid text dir h =
    let path : (p : Path) × (path_of text ≡ Ok p) × _ = ok_then (path_of text) _ dir h in
    let place : (p : Place) × (resolve state path.0 ≡ Ok p) × _ = ok_then (resolve state path.0) _ dir path.2 in
    let one : (id : InodeId) × (live_directory state place.0 ≡ Ok id) × _ = ok_then (live_directory state place.0) _ dir place.2 in
    let listed = ok_then (refuse_if (not (is_snapshottable state one.0)) _) _ dir one.2 in
    let live : IsLive state path.0.base path.0.tail place.0 = live-place state path.0.base path.0.tail place.0 one.0 place.1 one.1 in
    let same : one.0 ≡ dir = same_ok listed.2 in
    let here : place_of state.tree live.node.id ≡ Some (path.0.base, live.node) = place_of-here state.tree (tree-of state valid) path.0.base live.node live.node.id live.there refl in
    record {
      path = path.0.base;
      leads = ap (λ (read : Asked Path). read >>= λ p. plain_base p.base p.tail) path.1 ∙ live.plain;
      at = root-at state valid path.0.base live.node dir live.there
          (sym same ∙ directory-so (path.0.base, live.node) one.0 (sym (ap directory_there here) ∙ ap (live_directory state) (sym live.is) ∙ one.1))
          (ap (is_snapshottable state) (sym same) ∙ not_not (is_snapshottable state one.0) (not_refused (not (is_snapshottable state one.0)) _ listed.0 listed.1));
    }

-- ---- and back

passes-dir : (o : Option (Node (List ℕ))) → is_dir_shape (option_map shape o) ≡ true → passes o ≡ Ok tt
passes-dir None h = absurd (true_false h refl)
passes-dir (Some node) h = ap (λ b. cond {A = Asked (Unit {0})} b (Ok tt) (Err NotDir)) h

-- a walk from the root of a tree gets to what is there
walks-there : (tree : Tree (List ℕ)) (next : ℕ) → IsTree (shapes tree) next → (here below : Names) (s : Shape) → shapes tree (here ++ below) ≡ Some s → walks_from tree here below ≡ Ok tt
walks-there tree next is here [] s at = refl
walks-there tree next is here (name ∷ below) s at =
    let longer : shapes tree ((here ++ name ∷ []) ++ below) ≡ Some s = ap (shapes tree) (append_assoc here (name ∷ []) below) ∙ at in
    let t : (t : Shape) × (shapes tree (here ++ name ∷ []) ≡ Some t) = there_above (shapes tree) next is (here ++ name ∷ []) below s longer in
    ap (λ (p : Asked (Unit {0})). p >>= λ _. walks_from tree (here ++ name ∷ []) below) (passes-dir (node_at tree here) (is.above here name t.0 t.1))
    ∙ walks-there tree next is (here ++ name ∷ []) below s longer

abbrev path_with : Names → PathTail → Path
path_with base tail = record { base = base; tail = tail }

plain-so : (path : Path) (names : Names) → plain_of path ≡ Ok names → path ≡ path_with names Plain
plain-so path names h = by path.base path.tail h
  where
    by : (base : Names) (tail : PathTail) → plain_base base tail ≡ Ok names → path_with base tail ≡ path_with names Plain
    by base Plain h = ap (λ (b : Names). path_with b Plain) (same_ok h)
    by base SnapshotList h = absurd (err_ok h)
    by base (Frozen snapshot rest) h = absurd (err_ok h)

pub root-from : (state : State (List ℕ)) → IsValid state → (text : List ℕ) (dir : InodeId) → LeadsTo state text dir → snapshottable_at state text ≡ Ok dir
root-from state valid text dir root =
    let a : (p : Path) × (path_of text ≡ Ok p) × (plain_of p ≡ Ok root.path) = ok_then (path_of text) plain_of root.path root.leads in
    let n : (n : Node (List ℕ)) × (node_at state.tree root.path ≡ Some n) × (shape n ≡ (dir.0, true)) = shape_some (node_at state.tree root.path) (dir.0, true) root.at.0 in
    let id : n.0.id ≡ dir = inode_so n.0.id dir (inode_test n.0.id dir (ap (λ (s : Shape). s.0) n.2)) in
    let here : place_of state.tree n.0.id ≡ Some (root.path, n.0) = place_of-here state.tree (tree-of state valid) root.path n.0 n.0.id n.1 refl in
    let listed : is_snapshottable state dir ≡ true = any_from (same_inode dir) state.snapshottable dir root.at.1 ((Decides-eqb dir.0 dir.0).1 refl) in
    ap (λ (read : Asked Path). read >>= asks) a.1
    ∙ ap asks (plain-so a.0 root.path a.2)
    ∙ ap (λ (w : Asked (Unit {0})). with_node (w >>= λ _. found (node_at state.tree root.path)) >>= lists) (walks-there state.tree state.next_inode (live_tree state valid) [] root.path (dir.0, true) root.at.0)
    ∙ ap (λ o. with_node (found o) >>= lists) n.1
    ∙ ap (λ o. directory_there o >>= is_listed) here
    ∙ ap (λ b. cond {A = Asked InodeId} b (Ok n.0.id) (Err NotDir) >>= is_listed) (ap (λ (s : Shape). s.1) n.2)
    ∙ ap is_listed id
    ∙ ap (λ b. refuse_if (not b) NotSnapshottable >>= λ _. Ok dir) listed
  where
    is_listed : InodeId → Asked InodeId
    is_listed dir = refuse_if (not (is_snapshottable state dir)) NotSnapshottable >>= λ there. Ok dir

    lists : Place → Asked InodeId
    lists place = live_directory state place >>= is_listed

    with_node : Asked (Node (List ℕ)) → Asked Place
    with_node asked = asked >>= λ node. Ok (places.Live node.id)

    asks : Path → Asked InodeId
    asks path = resolve state path >>= lists
