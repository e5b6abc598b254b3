-- A deletion: what it asks of the table, and that it was done.
use Rattle.std.proofs.Common.{◌≡◌, ℕ, ◌+◌, ◌≤◌, Bool, true, false, List, [], ◌++◌, length, Option, Ok, Err, refl, sym, ap, subst, ◌∙◌, arith}
use Rattle.std.specs.Prelude.{not, ◌&&◌}
use Rattle.std.specs.List.{Contains}
use Rattle.hs_types.specs.Blocks.{BlockMap}
use Rattle.hs_types.specs.Names.{Names}
use Rattle.hs_types.specs.declared.ids.BlockId.{BlockId}
use Rattle.hs_types.specs.declared.ids.InodeId.{InodeId}
use Rattle.hs_types.specs.declared.call.Call.TheVariants as calls
use Rattle.hs_types.specs.declared.refusal.Refusal.{Refusal}
use Rattle.hs_types.specs.declared.refusal.Refusal.TheVariants.{IsRoot, NotEmpty, HasSnapshots}
use Rattle.hs_types.specs.declared.reply.Reply.TheVariants as replies
use Rattle.hs_plain.specs.declared.state.State.{State}
use Rattle.hs_plain.specs.declared.state.FileBlocks.{FileBlocks}
use Rattle.hs_plain.specs.Asked.{Asked, refuse_if}
use Rattle.hs_plain.specs.Answer.{replied}
use Rattle.hs_plain.specs.Change.{change, if_asked, removed, ticked}
use Rattle.hs_plain.specs.Files.{block_files, plain_files}
use Rattle.hs_plain.specs.Modifying.{delete_at, live_path, spares_children}
use Rattle.hs_plain.specs.State.{is_snapshottable, holds_snapshots}
use Rattle.hs_plain.specs.Tree.{is_root_path, walk}
use Rattle.hs_plain.specs.Valid.{IsValid}
use Rattle.hs_plain.proofs.ValidAsked.{ok_then, same_ok}
use Rattle.hs_plain.proofs.ValidDirs.{listed_test}
use Rattle.hs_plain.proofs.ValidLists.{in-contains}
use Rattle.hs_plain.proofs.Validity.{valid-change}
use Rattle.snapshot_manager.specs.Snapshots.{Snapshots, snaps_in}
use Rattle.inode_table.specs.declared.change.Change.{Change}
use Rattle.inode_table.specs.declared.change.Change.TheVariants as changes
use Rattle.inode_table.specs.declared.freed.Freed.{Freed}
use Rattle.inode_table.specs.Blocked.{AreBlocks}
use Rattle.inode_table.specs.Kept.{CanChange}
use Rattle.inode_table.specs.Reads.{child}
use Rattle.inode_table.specs.Released.{Releasing}
use Rattle.inode_table.specs.Tabled.{Tabled, changed}
use Rattle.inode_table.specs.Totals as totals
use Rattle.inode_table.specs.Whole.{StandsFor}
use Rattle.table_laws.specs.BlockCalls.{HasBlocks}
use Rattle.table_laws.specs.WholeCalls as tables
use Rattle.table_laws.specs.WholeCalls.{way_to, need_at, with_change, all_disallowed}
use Rattle.table_laws.specs.WholeLaws.{AreGone}
use Rattle.table_laws.proofs.BlockCalls.{delete-blocks}
use Rattle.table_laws.proofs.WholeGone.{whole-delete}
use Rattle.table_laws.proofs.WholeMay.{may-delete}
use Rattle.table_laws.proofs.WholeSnaps.{none-of}
use Rattle.namenode_write.specs.declared.rows.deleting.Going.{Going}
use Rattle.namenode_write.specs.GoneDirs.{IsGoing}
use Rattle.namenode_write.specs.Rows.{Held, weight, IsAt, IsDone}
use Rattle.namenode_write.proofs.ReleasedWeights.{weight-released}
use Rattle.namenode_write.proofs.RowDone.{call-done}
use Rattle.namenode_write.proofs.Weights.{weight-changed}

abbrev okay : {X : Type 0} → X → Asked X
okay x = Ok x

not_refused : (b : Bool) (why : Refusal) (u : Unit {0}) → refuse_if b why ≡ Ok u → b ≡ false
not_refused true why u h = absurd (cc)
not_refused false why u h = refl

-- what is deleted isn't the root
pub below-root : (state : State FileBlocks) (text : List ℕ) (recursive : Bool) (path : Names) → delete_at state text recursive ≡ Ok path → is_root_path path ≡ false
below-root state text recursive path asked =
    let a = ok_then (live_path text) _ path asked in
    let b = ok_then (walk state.tree a.0) _ path a.2 in
    let c = ok_then (refuse_if (is_root_path a.0) IsRoot) _ path b.2 in
    let d = ok_then (refuse_if (spares_children state.tree a.0 recursive) NotEmpty) _ path c.2 in
    let e = ok_then (refuse_if (holds_snapshots state a.0) HasSnapshots) (λ _. okay a.0) path d.2 in
    ap is_root_path (sym (same_ok e.2)) ∙ not_refused (is_root_path a.0) IsRoot c.0 c.1

module _ (t : Tabled) (snaps : Snapshots) (state : State FileBlocks) (stands : StandsFor t snaps state) (text : List ℕ) (recursive : Bool) (path : Names) (going : Going)
    (asked : delete_at state text recursive ≡ Ok path) (is : IsGoing t.rows state path going) where
  asked_child : delete_at state text recursive ≡ Ok (child is.above going.name)
  asked_child = asked ∙ ap okay is.split

  -- the entry may be taken out
  pub delete-can : CanChange t.rows going.parent.id (changes.Remove going.name)
  delete-can =
      let s = is.seat in
      subst (λ (i : InodeId). CanChange t.rows i (changes.Remove going.name)) (sym s.id) (may-delete t snaps state text recursive is.above going.name s.chain s.node stands asked_child s.reaches)

  -- what ceases to be snapshottable has no snapshots
  pub delete-free : (dir : InodeId) → Contains going.gone dir → snaps_in snaps dir ≡ []
  delete-free dir at = stands.told.tables dir ∙ none-of (is_snapshottable (removed state path)) dir state.members no_more valid.member_dirs
    where
      none : (b : Bool) → (b && not true) ≡ false
      none true = refl
      none false = refl

      no_more : is_snapshottable (removed state path) dir ≡ false
      no_more = is.gone dir ∙ ap (λ b. is_snapshottable state dir && not b) (listed_test going.gone dir (in-contains going.gone dir at)) ∙ none (is_snapshottable state dir)

      valid : IsValid (ticked (removed state path))
      valid = subst (λ (s : State FileBlocks). IsValid (ticked s)) (ap (if_asked (removed state) state) asked) (valid-change state stands.valid block_files (calls.Delete text recursive))

  module _ (tick : ℕ) (after : Tabled) (freed : Freed) (released : Releasing (changed going.parent.id going.parent.need.0 tick (changes.Remove going.name) t) freed after) where
    -- the entry was taken out at the need of the directory above
    unlinked : tick ≡ state.tick + 1 → changed going.parent.id going.parent.need.0 tick (changes.Remove going.name) t ≡ tables.unlinked state (way_to is.seat.node is.seat.chain) going.name t
    unlinked now =
        let s = is.seat in
        let what : Change = changes.Remove going.name in
        ap (λ (i : InodeId). changed i going.parent.need.0 tick what t) s.id ∙ ap (λ (n : ℕ). changed s.node.id n tick what t) s.need
        ∙ ap (λ (n : ℕ). changed s.node.id (need_at state t.rows (way_to s.node s.chain)) n what t) now

    pub delete-stands : tick ≡ state.tick + 1 → StandsFor after (all_disallowed going.gone snaps) (ticked (change block_files state (calls.Delete text recursive)))
    delete-stands now = whole-delete block_files t after freed snaps going.gone state text recursive is.above going.name is.seat.chain is.seat.node stands asked_child is.seat.reaches
        (subst (λ (p : Names). AreGone state p going.gone) is.split is.gone) (subst (λ (x : Tabled). Releasing x freed after) (unlinked now) released)

    pub delete-light : totals.weight after.rows ≤ totals.weight t.rows + 3
    delete-light =
        let more = weight-changed t going.parent.id going.parent.need.0 tick (changes.Remove going.name) stands.naming.order stands.records.undoable delete-can in
        let less = weight-released (changed going.parent.id going.parent.need.0 tick (changes.Remove going.name) t) after freed released in
        omega (arith, more, less)

over : {store other : Option BlockMap} {made given : ℕ} {waiting left : List BlockId} (t : Tabled) → other ≡ store → given ≡ made → left ≡ waiting → AreBlocks t.rows store made waiting → AreBlocks t.rows other given left
over {store} {other} {made} {given} {waiting} {left} t same alike as_before are =
    subst (λ (s : Option BlockMap). AreBlocks t.rows s given left) (sym same) (subst (λ (n : ℕ). AreBlocks t.rows store n left) (sym alike) (subst (AreBlocks t.rows store made) (sym as_before) are))

-- no snapshot goes
kept_members : (plain : State (List ℕ)) (a : Asked Names) → (if_asked (removed plain) plain a).members ≡ plain.members
kept_members plain (Ok path) = refl
kept_members plain (Err why) = refl

module _ (before now : Held) (tick : ℕ) (plain : State (List ℕ)) (at : IsAt before tick plain) (text : List ℕ) (recursive : Bool) (path : Names) (going : Going) (asked : delete_at at.stands.state text recursive ≡ Ok path)
    (is : IsGoing before.table.rows at.stands.state path going) (freed : Freed) (released : Releasing (changed going.parent.id going.parent.need.0 (tick + 1) (changes.Remove going.name) before.table) freed now.table)
    (snaps : now.snaps ≡ all_disallowed going.gone before.snaps) where
  abbrev state : State FileBlocks
  state = at.stands.state

  next : tick + 1 ≡ state.tick + 1
  next = ap (λ n. n + 1) (sym at.tick ∙ sym (ap (λ (s : State ℕ). s.tick) at.stands.sized))

  pub deleted-light : weight now (ticked (change plain_files plain (calls.Delete text recursive))) ≤ weight before plain + 10
  deleted-light =
      let light = delete-light before.table before.snaps state at.stands.stands text recursive path going asked is (tick + 1) now.table freed released in
      let same : length (change plain_files plain (calls.Delete text recursive)).members ≡ length plain.members = ap length (kept_members plain (delete_at plain text recursive)) in
      omega (arith, light, same)

  pub deleted-done : now.store ≡ before.store → now.greatest ≡ before.greatest → now.waiting ≡ before.waiting ++ freed.blocks → IsDone before now tick (calls.Delete text recursive) replies.Done plain
  deleted-done store greatest waiting =
      let stood = delete-stands before.table before.snaps state at.stands.stands text recursive path going asked is (tick + 1) now.table freed released next in
      let has : HasBlocks now.table before.store before.greatest (before.waiting ++ freed.blocks) =
      delete-blocks before.store before.greatest before.waiting before.table now.table freed going.parent.id going.parent.need.0 (tick + 1) going.name released
      (record { handed_out = at.stands.stands.handed_out; blocks = at.stands.blocks }) in
      call-done before now tick (calls.Delete text recursive) replies.Done plain at refl refl (ap (replied replies.Done) asked)
      (subst (λ (s : Snapshots). StandsFor now.table s (ticked (change block_files state (calls.Delete text recursive)))) (sym snaps) stood) store greatest
      (over now.table store greatest waiting has.blocks) deleted-light
