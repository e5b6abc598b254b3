-- A directory with snapshots stays where it is.
use Rattle.std.proofs.Common.{◌≡◌, ℕ, Bool, true, false, Some, None, is_some, Ok, Err, List, [], ◌∷◌, ◌++◌, refl, ap, sym, ◌∙◌, append-nil, append_assoc}
use Rattle.std.specs.Prelude.{◌&&◌}
use Rattle.hs_types.specs.Names.{Names}
use Rattle.hs_types.specs.declared.ids.InodeId.{InodeId}
use Rattle.hs_types.specs.declared.ids.SnapId.{SnapId}
use Rattle.hs_types.specs.declared.refusal.Refusal.{Refusal}
use Rattle.hs_types.specs.declared.refusal.Refusal.TheVariants.{Exists, IsRoot, HasSnapshots}
use Rattle.hs_types.specs.declared.call.Call.{Call}
use Rattle.hs_types.specs.declared.call.Call.TheVariants as calls
use Rattle.hs_types.specs.declared.journal.Entry.{Entry}
use Rattle.hs_plain.specs.declared.state.Node.{Node}
use Rattle.hs_plain.specs.declared.state.Body.{Body}
use Rattle.hs_plain.specs.declared.state.Body.TheVariants.{File}
use Rattle.hs_plain.specs.declared.state.Member.{Member}
use Rattle.hs_plain.specs.declared.state.State.{State}
use Rattle.hs_plain.specs.Asked.{Asked, ◌>>=◌, refuse_if, both}
use Rattle.hs_plain.specs.Files.{plain_files}
use Rattle.hs_plain.specs.Tree.{node_at, walk, walks_above, is_dir_body, is_root_path, is_under, same_inode}
use Rattle.hs_plain.specs.State.{member_named, member_with, has_snapshots, holds_snapshots}
use Rattle.hs_plain.specs.Modifying.{live_path, may_move, rename_at}
use Rattle.hs_plain.specs.Reading.{snapshottable_at}
use Rattle.hs_plain.specs.Change.{after}
use Rattle.hs_plain.specs.Span.{Span, IsInSpan, Stays}
use Rattle.hs_plain.specs.Premises.{member_at}
use Rattle.hs_plain.specs.Valid.{is_dir_node, IsValid}
use Rattle.hs_plain.specs.inside.Places.{IsOutside}
use Rattle.hs_plain.proofs.ValidTrees as tests
use Rattle.hs_plain.proofs.ValidShapes.{Shape, Shapes, is_dir_shape, true_false, there_above, under_test}
use Rattle.hs_plain.proofs.ValidLists.{any_from, none_so}
use Rattle.hs_plain.proofs.ValidMembers.{inode_so, inode_test}
use Rattle.hs_plain.proofs.ValidNodes.{shape, shapes, shape_some, dir_shape}
use Rattle.hs_plain.proofs.ValidHeld.{in-tree}
use Rattle.hs_plain.proofs.ValidFollows.{live_tree}
use Rattle.hs_plain.proofs.ValidAsked.{same_ok, ok_then, mkdir_room, create_room, append_there, delete_allowed, rename_allowed, disallow_allowed, IsFileAt}
use Rattle.plan_laws.proofs.Roots.{IsRootAt, IsElsewhere, root-stays}
use Rattle.sync_laws.specs.Lasting.{state_at, IsWithin}
use Rattle.sync_laws.proofs.Spans.{throughout}
use Rattle.sync_laws.proofs.Snapshots.{valid-at, entry-keeps, with-so, with-from, named-so, names-last}
use Rattle.sync_laws.proofs.RootPaths.{LeadsTo, root-so, root-from}

err_ok : {X : Type 0} {why : Refusal} {x : X} → Err why ≡ Ok x → ⊥
err_ok h = cc

not_refused : (b : Bool) (why : Refusal) (u : Unit {0}) → refuse_if b why ≡ Ok u → b ≡ false
not_refused true why u h = absurd (err_ok h)
not_refused false why u h = refl

-- ---- one state

module _ (state : State (List ℕ)) (valid : IsValid state) (root : Names) (dir : InodeId) (at : IsRootAt state root dir) (held : has_snapshots state dir ≡ true) where
  abbrev seen : Shapes
  seen = shapes state.tree

  -- where no directory is, the root is neither there nor below
  no-dir-above : (path : Names) → is_dir_node (node_at state.tree path) ≡ false → IsOutside path root
  no-dir-above path none [] e = true_false (ap is_dir_shape (sym (ap seen (e ∙ append-nil path)) ∙ at.0)) (dir_shape (node_at state.tree path) ∙ none)
  no-dir-above path none (name ∷ rest) e =
      let below : seen ((path ++ name ∷ []) ++ rest) ≡ Some (dir.0, true) = ap seen (append_assoc path (name ∷ []) rest ∙ sym e) ∙ at.0 in
      let t : (t : Shape) × (seen (path ++ name ∷ []) ≡ Some t) = there_above seen state.next_inode (live_tree state valid) (path ++ name ∷ []) rest (dir.0, true) below in
      true_false ((live_tree state valid).above path name t.0 t.1) (dir_shape (node_at state.tree path) ∙ none)

  no-node : (path : Names) → node_at state.tree path ≡ None → IsOutside path root
  no-node path none = no-dir-above path (ap is_dir_node none)

  -- and where no directory with snapshots is or is below
  no-held-above : (path : Names) → holds_snapshots state path ≡ false → IsOutside path root
  no-held-above path none rest e =
      let n : (n : Node (List ℕ)) × (node_at state.tree root ≡ Some n) × (shape n ≡ (dir.0, true)) = shape_some (node_at state.tree root) (dir.0, true) at.0 in
      let id : n.0.id ≡ dir = inode_so n.0.id dir (inode_test n.0.id dir (ap (λ (s : Shape). s.0) n.2)) in
      true_false (tests.both (ap (has_snapshots state) id ∙ held) (under_test root path rest e))
      (none_so (λ place. has_snapshots state place.1.id && is_under path place) state.tree none (root, n.0) (in-tree state.tree root n.0 n.1))

  file-no-dir : (body : Body (List ℕ)) (file : List ℕ) → body ≡ File file → is_dir_body body ≡ false
  file-no-dir body file e = ap is_dir_body e

  moves-held : (old new : Names) (u : Unit {0}) → may_move state old new ≡ Ok u → holds_snapshots state old ≡ false
  moves-held old new u h =
      let a = ok_then (both (walk state.tree old) (walks_above state.tree new)) _ u h in
      let b = ok_then (refuse_if (is_some (node_at state.tree new)) Exists) _ u a.2 in
      let c = ok_then (refuse_if (is_root_path old) IsRoot) _ u b.2 in
      let d = ok_then (refuse_if (holds_snapshots state old) HasSnapshots) _ u c.2 in
      not_refused (holds_snapshots state old) HasSnapshots d.0 d.1

  rename-held : (old new : List ℕ) (paths : Names × Names) → rename_at state old new ≡ Ok paths → holds_snapshots state paths.0 ≡ false
  rename-held old new paths h =
      let a = ok_then (both (live_path old) (live_path new)) _ paths h in
      let b = ok_then (may_move state a.0.0 a.0.1) _ paths a.2 in
      let same : a.0 ≡ paths = same_ok b.2 in
      ap (λ (p : Names × Names). holds_snapshots state p.0) (sym same) ∙ moves-held a.0.0 a.0.1 b.0 b.1

  -- no call that is accepted touches it or what is above it
  pub elsewhere : (call : Call) → IsElsewhere state valid root dir at call
  elsewhere (calls.Mkdir text) = λ path h. no-dir-above path (mkdir_room state text path h).free
  elsewhere (calls.Create text over) = λ path h. no-dir-above path (create_room state text over path h).free
  elsewhere (calls.Append text bytes) = λ file h.
      let there : IsFileAt state.tree file.0 file.1 file.2 = append_there state text file h in
      no-dir-above file.0 (ap is_dir_node there.there ∙ file-no-dir file.1.body file.2 there.body)
  elsewhere (calls.Delete text recursive) = λ path h. no-held-above path (delete_allowed state text recursive path h).free
  elsewhere (calls.Rename old new) = λ paths h. (no-held-above paths.0 (rename-held old new paths h), no-node paths.1 (rename_allowed state old new paths h).moves.free)
  elsewhere (calls.Disallow text) = λ other h same. true_false held (ap (has_snapshots state) (sym (inode_so other dir (inode_test other dir same))) ∙ disallow_allowed state text other h)
  elsewhere (calls.SetMode text mode) = tt
  elsewhere (calls.Allow text) = tt
  elsewhere (calls.Snap text name) = tt
  elsewhere (calls.SnapDel text name) = tt
  elsewhere (calls.SnapRen text old new) = tt
  elsewhere (calls.Read text offset len) = tt
  elsewhere (calls.ReadNext cursor len) = tt
  elsewhere (calls.Stat text) = tt
  elsewhere (calls.List text size) = tt
  elsewhere (calls.ListNext cursor size) = tt
  elsewhere (calls.Snaps text) = tt
  elsewhere calls.Dirs = tt
  elsewhere (calls.Report text from to size) = tt
  elsewhere (calls.ReportNext cursor size) = tt

pub has-held : (state : State (List ℕ)) (snapshot : SnapId) (member : Member (List ℕ)) (dir : InodeId) → member_with state.members snapshot ≡ Ok member → member.directory ≡ dir → has_snapshots state dir ≡ true
has-held state snapshot member dir here same =
    any_from (λ (one : Member (List ℕ)). same_inode one.directory dir) state.members member (with-so state.members snapshot member here).0 (inode_test member.directory dir (ap (λ (id : InodeId). id.0) same))

-- ---- a span

-- the root with its snapshot
abbrev pub Keeps : Names → InodeId → SnapId → Member (List ℕ) → State (List ℕ) → Type 0
Keeps root dir snapshot member state = IsRootAt state root dir × (member_with state.members snapshot ≡ Ok member)

pub root-keeps : (journal : List Entry) (span : Span) (root : Names) (dir : InodeId) (snapshot : SnapId) (member : Member (List ℕ)) → Stays journal span snapshot → member.directory ≡ dir →
    (index : ℕ) (entry : Entry) → IsInSpan journal span index entry → Keeps root dir snapshot member (state_at journal index) → Keeps root dir snapshot member (after plain_files (state_at journal index) entry)
root-keeps journal span root dir snapshot member stays same index entry there keeps = (
  root-stays (state_at journal index) (valid-at journal index) root dir keeps.0 plain_files entry
      (elsewhere (state_at journal index) (valid-at journal index) root dir keeps.0 (has-held (state_at journal index) snapshot member dir keeps.1 same) entry.call),
  entry-keeps (state_at journal index) entry snapshot member (stays index entry there) keeps.1,
)

pub root-throughout : (journal : List Entry) (span : Span) (root : Names) (dir : InodeId) (snapshot : SnapId) (member : Member (List ℕ)) → Stays journal span snapshot → member.directory ≡ dir →
    Keeps root dir snapshot member (state_at journal span.low) → (index : ℕ) → IsWithin span index → Keeps root dir snapshot member (state_at journal index)
root-throughout journal span root dir snapshot member stays same begins index within =
    throughout (Keeps root dir snapshot member) journal span (root-keeps journal span root dir snapshot member stays same) begins index within

pub roots-last : (journal : List Entry) (span : Span) (index : ℕ) (text : List ℕ) (dir : InodeId) (snapshot : SnapId) (member : Member (List ℕ)) → IsWithin span index → Stays journal span snapshot →
    member_with (state_at journal span.low).members snapshot ≡ Ok member → member.directory ≡ dir → snapshottable_at (state_at journal span.low) text ≡ Ok dir → snapshottable_at (state_at journal index) text ≡ Ok dir
roots-last journal span index text dir snapshot member within stays has same leads =
    let root : LeadsTo (state_at journal span.low) text dir = root-so (state_at journal span.low) (valid-at journal span.low) text dir leads in
    let later : Keeps root.path dir snapshot member (state_at journal index) = root-throughout journal span root.path dir snapshot member stays same (root.at, has) index within in
    root-from (state_at journal index) (valid-at journal index) text dir (record { path = root.path; leads = root.leads; at = later.0 })

pub member-lasts : (journal : List Entry) (span : Span) (index : ℕ) (text name : List ℕ) (member : Member (List ℕ)) → IsWithin span index → Stays journal span member.snapshot →
    member_at (state_at journal span.low) text name ≡ Ok member → member_at (state_at journal index) text name ≡ Ok member
member-lasts journal span index text name member within stays begins =
    let low : State (List ℕ) = state_at journal span.low in
    let a : (dir : InodeId) × (snapshottable_at low text ≡ Ok dir) × (member_named low.members dir name ≡ Ok member) = ok_then (snapshottable_at low text) (λ dir. member_named low.members dir name) member begins in
    let so = named-so low.members a.0 name member a.2 in
    let has : member_with low.members member.snapshot ≡ Ok member = with-from low.members member (valid-at journal span.low).snapshots_rise so.0 in
    let same : member.directory ≡ a.0 = inode_so member.directory a.0 (tests.first (same_inode member.directory a.0) _ so.1) in
    ap (λ (asked : Asked InodeId). asked >>= λ dir. member_named (state_at journal index).members dir name) (roots-last journal span index text a.0 member.snapshot member within stays has same a.1)
    ∙ names-last journal span index a.0 name member within stays a.2
