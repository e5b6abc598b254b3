-- What holds of the paths of a modifying call that isn't refused.
use Rattle.std.proofs.Common.{◌≡◌, inl, inr, ℕ, ◌+◌, ◌≤◌, Bool, true, false, cond, List, [], ◌∷◌, ◌++◌, length, Option, Some, None, Ok, Err, refl, sym, ap, subst, ◌∙◌, append_assoc, append-nil, length-append, arith}
use Rattle.std.specs.Prelude.{◌≢◌, not, ◌&&◌, nat_lt, nat_le, is_some}
use Rattle.std.proofs.lemmas.Bool.{ltb-false}
use Rattle.hs_types.specs.declared.refusal.Refusal.{Refusal}
use Rattle.hs_types.specs.Limits.{snapshot_limit}
use Rattle.hs_types.specs.Names.{Names, is_name}
use Rattle.hs_types.specs.declared.ids.InodeId.{InodeId}
use Rattle.hs_types.specs.declared.ids.SnapId.{SnapId}
use Rattle.hs_types.specs.declared.refusal.Refusal.TheVariants.{NotDir, NotEmpty, HasSnapshots, IntoItself}
use Rattle.hs_plain.specs.declared.state.Node.{Node}
use Rattle.hs_plain.specs.declared.state.Body.{Body}
use Rattle.hs_plain.specs.declared.state.Body.TheVariants.{File, Dir}
use Rattle.hs_plain.specs.declared.state.Member.{Member}
use Rattle.hs_plain.specs.declared.state.State.{State}
use Rattle.hs_plain.specs.Asked.{Asked, ◌>>=◌, refuse_if, both}
use Rattle.hs_plain.specs.Tree.{Tree, node_at, passes, walks_from, walks_above, walk, found, is_dir, is_root_path, is_above, same_inode}
use Rattle.hs_plain.specs.State.{is_snapshottable, snapshots_of, has_snapshots, has_snapshot_named, snapshot_named, is_named, holds_snapshots, meets_snapshottable}
use Rattle.hs_plain.specs.Modifying.{live_path, mkdir_at, create_at, delete_at, rename_at, may_move, would_nest, takes_place_of, spares_children, file_in, append_at}
use Rattle.hs_plain.specs.Snapshotting.{directory_at, allow_at, disallow_at, snap_at, snap_ren_at}
use Rattle.hs_plain.specs.Valid.{is_dir_node, are_names}
use Rattle.hs_plain.proofs.ValidTrees.{first}
use Rattle.hs_plain.proofs.ValidShapes.{under_test}
use Rattle.hs_plain.proofs.ValidNames.{live-named}
use Rattle.hs_plain.proofs.ValidLists.{In}
use Rattle.hs_plain.proofs.ValidMembers.{inode_so}

err_ok : {X : Type 0} {why : Refusal} {x : X} → Err why ≡ Ok x → ⊥
err_ok h = cc

abbrev okay : {X : Type 0} → X → Asked X
okay x = Ok x

pub same_ok : {X : Type 0} {x y : X} → okay x ≡ Ok y → x ≡ y
same_ok h = cc

-- where a chain of tests refuses nothing, its first doesn't, and nor does the rest
pub ok_then : {X Y : Type 0} (a : Asked X) (f : X → Asked Y) (y : Y) → (a >>= f) ≡ Ok y → (x : X) × (a ≡ Ok x) × (f x ≡ Ok y)
ok_then (Ok x) f y h = (x, refl, h)
ok_then (Err why) f y h = absurd (err_ok h)

not_refused : (b : Bool) (why : Refusal) (u : Unit {0}) → refuse_if b why ≡ Ok u → b ≡ false
not_refused true why u h = absurd (err_ok h)
not_refused false why u h = refl

both_ok : {X Y : Type 0} (a : Asked X) (b : Asked Y) (z : X × Y) → both a b ≡ Ok z → (a ≡ Ok z.0) × (b ≡ Ok z.1)
both_ok (Ok x) (Ok y) z h = (ap (λ p. Ok p.0) (same_ok h), ap (λ p. Ok p.1) (same_ok h))
both_ok (Ok x) (Err why) z h = absurd (err_ok h)
both_ok (Err why) (Ok y) z h = absurd (err_ok h)
both_ok (Err a) (Err b) z h = absurd (err_ok h)

not_root : (path : Names) → is_root_path path ≡ false → path ≢ []
not_root [] h e = cc
not_root (name ∷ path) h e = cc

not_not : (b : Bool) → not b ≡ false → b ≡ true
not_not true h = refl
not_not false h = sym h

module _ {B : Type 0} where
  passed : (o : Option (Node B)) (u : Unit {0}) → passes o ≡ Ok u → is_dir_node o ≡ true
  passed None u h = absurd (err_ok h)
  passed (Some node) u h = elim (is_dir node) as (λ b. cond {A = Asked (Unit {0})} b (Ok tt) (Err NotDir) ≡ Ok u → b ≡ true) [ true ↦ λ _. refl | false ↦ λ h. absurd (err_ok h) ] h

  -- a walk leads to a directory
  pub walked : (tree : Tree B) (here above : Names) (name : List ℕ) (u : Unit {0}) → walks_from tree here (above ++ name ∷ []) ≡ Ok u → is_dir_node (node_at tree (here ++ above)) ≡ true
  walked tree here [] name u h = let w = ok_then (passes (node_at tree here)) _ u h in ap (λ (p : Names). is_dir_node (node_at tree p)) (append-nil here) ∙ passed _ w.0 w.1
  walked tree here (other ∷ above) name u h =
      let w = ok_then (passes (node_at tree here)) _ u h in
      ap (λ (p : Names). is_dir_node (node_at tree p)) (sym (append_assoc here (other ∷ []) above)) ∙ walked tree (here ++ other ∷ []) above name u w.2

  is_none : (o : Option (Node B)) → is_some o ≡ false → o ≡ None
  is_none None h = refl
  is_none (Some n) h = cc

  free_place : (over : Bool) (o : Option (Node B)) (u : Unit {0}) → takes_place_of over o ≡ Ok u → is_dir_node o ≡ false
  free_place over None u h = refl
  free_place false (Some n) u h = absurd (err_ok h)
  free_place true (Some n) u h = not_refused (is_dir n) _ u h

  found_some : (o : Option (Node B)) (n : Node B) → found o ≡ Ok n → o ≡ Some n
  found_some None n h = absurd (err_ok h)
  found_some (Some m) n h = ap (λ x. Some x) (same_ok h)

  -- a place for a new node: its path is of names, a walk leads there, and no directory is there
  pub record HasRoom (tree : Tree B) (path : Names) : Type 0 where
    pub named : are_names path ≡ true
    pub reached : (u : Unit {0}) × (walks_above tree path ≡ Ok u)
    pub free : is_dir_node (node_at tree path) ≡ false

  pub mkdir_room : (state : State B) (text : List ℕ) (path : Names) → mkdir_at state text ≡ Ok path → HasRoom state.tree path
  mkdir_room state text path h =
      let a = ok_then (live_path text) _ path h in
      let b = ok_then (walks_above state.tree a.0) _ path a.2 in
      let c = ok_then (refuse_if (is_some (node_at state.tree a.0)) _) _ path b.2 in
      let same : a.0 ≡ path = same_ok c.2 in
      record {
        named = ap are_names (sym same) ∙ live-named text a.0 a.1;
        reached = (b.0, ap (walks_above state.tree) (sym same) ∙ b.1);
        free = ap (λ (p : Names). is_dir_node (node_at state.tree p)) (sym same) ∙ ap is_dir_node (is_none _ (not_refused _ _ c.0 c.1));
      }

  pub create_room : (state : State B) (text : List ℕ) (over : Bool) (path : Names) → create_at state text over ≡ Ok path → HasRoom state.tree path
  create_room state text over path h =
      let a = ok_then (live_path text) _ path h in
      let b = ok_then (walks_above state.tree a.0) _ path a.2 in
      let c = ok_then (takes_place_of over (node_at state.tree a.0)) _ path b.2 in
      let same : a.0 ≡ path = same_ok c.2 in
      record {
        named = ap are_names (sym same) ∙ live-named text a.0 a.1;
        reached = (b.0, ap (walks_above state.tree) (sym same) ∙ b.1);
        free = ap (λ (p : Names). is_dir_node (node_at state.tree p)) (sym same) ∙ free_place over _ c.0 c.1;
      }

  -- a node that may go: it isn't the root, and no directory that goes has snapshots
  pub record MayGo (state : State B) (path : Names) : Type 0 where
    pub below_root : path ≢ []
    pub free : holds_snapshots state path ≡ false

  pub delete_allowed : (state : State B) (text : List ℕ) (recursive : Bool) (path : Names) → delete_at state text recursive ≡ Ok path → MayGo state path
  delete_allowed state text recursive path h =
      let a = ok_then (live_path text) _ path h in
      let b = ok_then (walk state.tree a.0) _ path a.2 in
      let c = ok_then (refuse_if (is_root_path a.0) _) _ path b.2 in
      let d = ok_then (refuse_if (spares_children state.tree a.0 recursive) NotEmpty) _ path c.2 in
      let f = ok_then (refuse_if (holds_snapshots state a.0) HasSnapshots) (λ _. okay a.0) path d.2 in
      let same : a.0 ≡ path = same_ok f.2 in
      record {
        below_root = λ e. not_root a.0 (not_refused _ _ c.0 c.1) (same ∙ e);
        free = ap (holds_snapshots state) (sym same) ∙ not_refused _ _ f.0 f.1;
      }

  is_file : (body : Body B) (file : B) → file_in body ≡ Ok file → body ≡ File file
  is_file (File other) file h = ap (λ f. File f) (same_ok h)
  is_file Dir file h = absurd (err_ok h)

  -- a file that gets bytes: it is there
  pub record IsFileAt (tree : Tree B) (path : Names) (node : Node B) (file : B) : Type 0 where
    pub there : node_at tree path ≡ Some node
    pub body : node.body ≡ File file

  pub append_there : (state : State B) (text : List ℕ) (at : Names × Node B × B) → append_at state text ≡ Ok at → IsFileAt state.tree at.0 at.1 at.2
  append_there state text at h =
      let a = ok_then (live_path text) _ at h in
      let b = ok_then (walk state.tree a.0) _ at a.2 in
      let c = ok_then (file_in b.0.body) _ at b.2 in
      let node = ok_then (walks_above state.tree a.0) _ b.0 b.1 in
      let same : (a.0, b.0, c.0) ≡ at = same_ok c.2 in
      record {
        there = ap (λ (x : Names × Node B × B). node_at state.tree x.0) (sym same) ∙ found_some _ b.0 node.2 ∙ ap (λ (x : Names × Node B × B). Some x.1) same;
        body = ap (λ (x : Names × Node B × B). x.1.body) (sym same) ∙ is_file b.0.body c.0 c.1 ∙ ap (λ (x : Names × Node B × B). File x.2) same;
      }

  -- a move: a node goes to a free place that isn't below it, with a path of names
  pub record MayMove (tree : Tree B) (old new : Names) : Type 0 where
    pub named : are_names new ≡ true
    pub reached : (u : Unit {0}) × (walks_above tree new ≡ Ok u)
    pub there : (n : Node B) × (node_at tree old ≡ Some n)
    pub free : node_at tree new ≡ None
    pub below_root : old ≢ []
    pub outside : is_above old new ≡ false

  -- and, with a snapshottable directory, not below another one
  pub record MayMoveIn (state : State B) (old new : Names) : Type 0 where
    pub moves : MayMove state.tree old new
    pub unnested : would_nest state old new ≡ false

  move_allowed : (state : State B) (old new : Names) (u : Unit {0}) → are_names new ≡ true → may_move state old new ≡ Ok u → MayMoveIn state old new
  move_allowed state old new u named h =
      let a = ok_then (both (walk state.tree old) (walks_above state.tree new)) _ u h in
      let ends = both_ok (walk state.tree old) (walks_above state.tree new) a.0 a.1 in
      let b = ok_then (refuse_if (is_some (node_at state.tree new)) _) _ u a.2 in
      let c = ok_then (refuse_if (is_root_path old) _) _ u b.2 in
      let d = ok_then (refuse_if (holds_snapshots state old) HasSnapshots) _ u c.2 in
      let f = ok_then (refuse_if (is_above old new) IntoItself) _ u d.2 in
      let node = ok_then (walks_above state.tree old) _ a.0.0 ends.0 in
      record {
        moves = record {
          named = named;
          reached = (a.0.1, ends.1);
          there = (a.0.0, found_some _ a.0.0 node.2);
          free = is_none _ (not_refused _ _ b.0 b.1);
          below_root = not_root old (not_refused _ _ c.0 c.1);
          outside = not_refused _ _ f.0 f.1;
        };
        unnested = not_refused _ _ u f.2;
      }

  pub rename_allowed : (state : State B) (old new : List ℕ) (paths : Names × Names) → rename_at state old new ≡ Ok paths → MayMoveIn state paths.0 paths.1
  rename_allowed state old new paths h =
      let a = ok_then (both (live_path old) (live_path new)) _ paths h in
      let b = ok_then (may_move state a.0.0 a.0.1) _ paths a.2 in
      let same : a.0 ≡ paths = same_ok b.2 in
      let named : are_names a.0.1 ≡ true = live-named new a.0.1 (both_ok (live_path old) (live_path new) a.0 a.1).1 in
      move_allowed state paths.0 paths.1 b.0 (ap (λ (p : Names × Names). are_names p.1) (sym same) ∙ named) (ap (λ (p : Names × Names). may_move state p.0 p.1) (sym same) ∙ b.1)

  -- the new place of a move is neither the old one nor below it
  pub lands_outside : (tree : Tree B) (old new : Names) → MayMove tree old new → (rest : Names) → new ≢ old ++ rest
  lands_outside tree old new may [] e = absurd (none_is (sym may.free ∙ ap (node_at tree) (e ∙ append-nil old) ∙ may.there.1))
    where
      none_is : {n : Node B} → None ≡ Some n → ⊥
      none_is h = cc
  lands_outside tree old new may (name ∷ rest) e =
      let longer : nat_lt (length old) (length new) ≡ false = ap (λ b. b && nat_lt (length old) (length new)) (sym (under_test new old (name ∷ rest) e)) ∙ may.outside in
      let le : length new ≤ length old = ltb-false (length old) (length new) longer in
      let len : length new ≡ length old + length (name ∷ rest) = ap length e ∙ length-append old (name ∷ rest) in
      absurd (omega arith)

  -- ---- calls on snapshots

  -- a directory that such a call names
  pub record IsDirAt (tree : Tree B) (path : Names) (node : Node B) : Type 0 where
    pub there : node_at tree path ≡ Some node
    pub dir : is_dir node ≡ true

  pub dir_there : (state : State B) (text : List ℕ) (at : Names × Node B) → directory_at state text ≡ Ok at → IsDirAt state.tree at.0 at.1
  dir_there state text at h =
      let a = ok_then (live_path text) _ at h in
      let b = ok_then (walk state.tree a.0) _ at a.2 in
      let c = ok_then (refuse_if (not (is_dir b.0)) NotDir) _ at b.2 in
      let node = ok_then (walks_above state.tree a.0) _ b.0 b.1 in
      let same : (a.0, b.0) ≡ at = same_ok c.2 in
      record {
        there = ap (λ (x : Names × Node B). node_at state.tree x.0) (sym same) ∙ found_some _ b.0 node.2 ∙ ap (λ (x : Names × Node B). Some x.1) same;
        dir = ap (λ (x : Names × Node B). is_dir x.1) (sym same) ∙ not_not _ (not_refused _ _ c.0 c.1);
      }

  -- a directory that may become snapshottable
  pub record MayAllow (state : State B) (id : InodeId) : Type 0 where
    pub path : Names
    pub node : Node B
    pub is_there : IsDirAt state.tree path node
    pub same : node.id ≡ id
    pub unnested : meets_snapshottable state path ≡ false

  pub allow_allowed : (state : State B) (text : List ℕ) (id : InodeId) → allow_at state text ≡ Ok id → MayAllow state id
  allow_allowed state text id h =
      let a = ok_then (directory_at state text) _ id h in
      let b = ok_then (refuse_if (meets_snapshottable state a.0.0) _) _ id a.2 in
      record { path = a.0.0; node = a.0.1; is_there = dir_there state text a.0 a.1; same = same_ok b.2; unnested = not_refused _ _ b.0 b.1 }

  pub disallow_allowed : (state : State B) (text : List ℕ) (id : InodeId) → disallow_at state text ≡ Ok id → has_snapshots state id ≡ false
  disallow_allowed state text id h =
      let a = ok_then (directory_at state text) _ id h in
      let b = ok_then (refuse_if (has_snapshots state a.0.1.id) _) _ id a.2 in
      let c = ok_then (refuse_if (not (is_snapshottable state a.0.1.id)) _) _ id b.2 in
      let same : a.0.1.id ≡ id = same_ok c.2 in
      ap (has_snapshots state) (sym same) ∙ not_refused _ _ b.0 b.1

  -- a directory of which a snapshot of this name may be made
  pub record MaySnap (state : State B) (name : List ℕ) (path : Names) (node : Node B) : Type 0 where
    pub named : is_name name ≡ true
    pub is_there : IsDirAt state.tree path node
    pub allowed : is_snapshottable state node.id ≡ true
    pub free : has_snapshot_named state node.id name ≡ false
    pub room : nat_le snapshot_limit (snapshots_of state.members node.id) ≡ false

  pub snap_allowed : (state : State B) (text name : List ℕ) (at : Names × Node B) → snap_at state text name ≡ Ok at → MaySnap state name at.0 at.1
  snap_allowed state text name at h =
      let a = ok_then (directory_at state text) _ at h in
      let b = ok_then (refuse_if (not (is_name name)) _) _ at a.2 in
      let c = ok_then (refuse_if (not (is_snapshottable state a.0.1.id)) _) _ at b.2 in
      let d = ok_then (refuse_if (has_snapshot_named state a.0.1.id name) _) _ at c.2 in
      let f = ok_then (refuse_if (nat_le snapshot_limit (snapshots_of state.members a.0.1.id)) _) _ at d.2 in
      let same : a.0 ≡ at = same_ok f.2 in
      subst (λ (x : Names × Node B). MaySnap state name x.0 x.1) same (record {
        named = not_not _ (not_refused _ _ b.0 b.1);
        is_there = dir_there state text a.0 a.1;
        allowed = not_not _ (not_refused _ _ c.0 c.1);
        free = not_refused _ _ d.0 d.1;
        room = not_refused _ _ f.0 f.1;
      })

  named_so : (dir : InodeId) (name : List ℕ) (member : Member B) → is_named dir name member ≡ true → member.directory ≡ dir
  named_so dir name member h = inode_so member.directory dir (first (same_inode member.directory dir) _ h)

  -- a snapshot that may get another name: it is a directory's that has none of this name
  pub record MayRename (state : State B) (name : List ℕ) (id : SnapId) : Type 0 where
    pub named : is_name name ≡ true
    pub member : Member B
    pub is_there : In state.members member
    pub same : member.snapshot ≡ id
    pub free : has_snapshot_named state member.directory name ≡ false

  found_named : (ms : List (Member B)) (dir : InodeId) (name : List ℕ) (id : SnapId) → snapshot_named ms dir name ≡ Ok id → (m : Member B) × (In ms m) × (m.directory ≡ dir) × (m.snapshot ≡ id)
  found_named [] dir name id h = absurd (err_ok h)
  found_named (m ∷ ms) dir name id h = by_head (found_named ms dir name id) h
    where
      by_head : (snapshot_named ms dir name ≡ Ok id → (x : Member B) × (In ms x) × (x.directory ≡ dir) × (x.snapshot ≡ id)) → snapshot_named (m ∷ ms) dir name ≡ Ok id → (x : Member B) × (In (m ∷ ms) x) × (x.directory ≡ dir) × (x.snapshot ≡ id)
      by_head rest = (elim (is_named dir name m) as (λ b. is_named dir name m ≡ b → cond {A = Asked SnapId} b (Ok m.snapshot) (snapshot_named ms dir name) ≡ Ok id → (x : Member B) × (In (m ∷ ms) x) × (x.directory ≡ dir) × (x.snapshot ≡ id)) [
        | true ↦ λ t h. (m, inl refl, named_so dir name m t, same_ok h)
        | false ↦ λ f h. let w = rest h in (w.0, inr w.1, w.2, w.3)
      ]) refl

  pub snap_ren_allowed : (state : State B) (text old new : List ℕ) (id : SnapId) → snap_ren_at state text old new ≡ Ok id → MayRename state new id
  snap_ren_allowed state text old new id h =
      let a = ok_then (directory_at state text) _ id h in
      let b = ok_then (refuse_if (not (is_name new)) _) _ id a.2 in
      let c = ok_then (refuse_if (not (is_snapshottable state a.0.1.id)) _) _ id b.2 in
      let d = ok_then (refuse_if (has_snapshot_named state a.0.1.id new) _) _ id c.2 in
      let w = found_named state.members a.0.1.id old id d.2 in
      record { named = not_not _ (not_refused _ _ b.0 b.1); member = w.0; is_there = w.1; same = w.3; free = ap (λ dir. has_snapshot_named state dir new) w.2 ∙ not_refused _ _ d.0 d.1 }
