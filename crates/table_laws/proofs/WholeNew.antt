-- Whole calls that make a node.
use Rattle.std.proofs.Common.{◌≡◌, ℕ, ◌+◌, ◌<◌, Bool, true, false, List, [], ◌∷◌, Option, Some, None, Ok, inl, inr, refl, sym, ap, subst, ◌∙◌, append-nil, arith}
use Rattle.std.specs.Prelude.{◌≢◌, is_some}
use Rattle.std.specs.Option.{option_map}
use Rattle.std.specs.List.{Contains}
use Rattle.std.proofs.lemmas.List.{append_cancel_left}
use Rattle.hs_types.specs.Names.{Names}
use Rattle.hs_types.specs.declared.ids.InodeId.{InodeId}
use Rattle.hs_types.specs.declared.call.Call.{Call}
use Rattle.hs_types.specs.declared.call.Call.TheVariants as calls
use Rattle.hs_types.specs.declared.refusal.Refusal.{Refusal}
use Rattle.hs_plain.specs.declared.state.Node.{Node}
use Rattle.hs_plain.specs.declared.state.State.{State}
use Rattle.hs_plain.specs.declared.state.Member.{Member}
use Rattle.hs_plain.specs.declared.state.FileBlocks.{FileBlocks}
use Rattle.hs_plain.specs.Asked.{refuse_if}
use Rattle.hs_plain.specs.Files.{Files, block_files}
use Rattle.hs_plain.specs.Tree.{Tree, node_at, parent_of, is_dir, walks_above}
use Rattle.hs_plain.specs.State.{new_dir}
use Rattle.hs_plain.specs.Modifying.{live_path, mkdir_at, create_at}
use Rattle.hs_plain.specs.Change.{change, ticked, if_asked, with_node, stamped, made_dir, made_file, new_file}
use Rattle.hs_plain.specs.Valid.{IsValid, is_dir_node}
use Rattle.hs_plain.proofs.ValidAsked.{ok_then, same_ok, walked, HasRoom, mkdir_room, create_room}
use Rattle.hs_plain.proofs.ValidChanges.{put_there}
use Rattle.hs_plain.proofs.ValidShapes.{not_last, parent_of-last}
use Rattle.hs_plain.proofs.ValidHeld.{below_so}
use Rattle.hs_plain.proofs.ValidLists.{in-contains}
use Rattle.hs_plain.proofs.Validity.{valid-change}
use Rattle.snapshot_manager.specs.Snapshots.{Snapshots}
use Rattle.inode_table.specs.declared.change.Change.TheVariants as changes
use Rattle.inode_table.specs.Reads.{Has, child, id_of}
use Rattle.inode_table.specs.Marks.{InCopy}
use Rattle.inode_table.specs.RowHistory.{RowHistory, RowState, row_at, shown, node_in, entries_in, spot_in}
use Rattle.inode_table.specs.Stands.{Stands, root_id}
use Rattle.inode_table.specs.Kept.{CanChange, IsBare, IsLoose}
use Rattle.inode_table.specs.Tabled.{Tabled, fresh_row, inserted, stamp_of}
use Rattle.inode_table.specs.Whole.{StandsFor}
use Rattle.inode_table.proofs.Covers.{some_id}
use Rattle.inode_table.proofs.Giving.{from-valid}
use Rattle.inode_table.proofs.Walking.{node_at-stamped}
use Rattle.table_laws.specs.WholeCalls as tables
use Rattle.table_laws.specs.WholeCalls.{way_to, need_at}
use Rattle.table_laws.specs.WholeMay.{MayMake}
use Rattle.table_laws.specs.WholeStands.{Reaches, IsNew}
use Rattle.table_laws.specs.Naming.{IsLive, lists_of}
use Rattle.table_laws.specs.Recording.{MayRecord}
use Rattle.table_laws.specs.WholeLaws.{new_dir_table, new_file_table}
use Rattle.table_laws.proofs.StepTables.{put-there}
use Rattle.table_laws.proofs.WholeSteps.{fits-add}
use Rattle.table_laws.proofs.WholeDeeds.{LiveRow, live-row, node-stands}
use Rattle.table_laws.proofs.WholeMidway.{Midway, begun, may-at, mid-insert, mid-in, ended-same}
use Rattle.table_laws.proofs.WholeParts.{before-of}

not_refused : (b : Bool) (why : Refusal) (u : Unit {0}) → refuse_if b why ≡ Ok u → b ≡ false
not_refused true why u h = cc
not_refused false why u h = refl

is_none : (o : Option (Node FileBlocks)) → is_some o ≡ false → o ≡ None
is_none None h = refl
is_none (Some n) h = cc

mkdir_free : (state : State FileBlocks) (text : List ℕ) (path : Names) → mkdir_at state text ≡ Ok path → node_at state.tree path ≡ None
mkdir_free state text path h =
    let a = ok_then (live_path text) _ path h in
    let b = ok_then (walks_above state.tree a.0) _ path a.2 in
    let c = ok_then (refuse_if (is_some (node_at state.tree a.0)) _) _ path b.2 in
    ap (node_at state.tree) (sym (same_ok c.2)) ∙ is_none (node_at state.tree a.0) (not_refused _ _ c.0 c.1)

pub parent-dir : (tree : Tree FileBlocks) (above : Names) (name : List ℕ) (parent : Node FileBlocks) → HasRoom tree (child above name) → node_at tree above ≡ Some parent → is_dir parent ≡ true
parent-dir tree above name parent room at = ap is_dir_node (sym at) ∙ walked tree [] above name room.reached.0 room.reached.1

not_child : (above : Names) (name : List ℕ) → above ≢ child above name
not_child above name e = not_last [] name (sym (append_cancel_left above [] (name ∷ []) (append-nil above ∙ e)))

-- the next id stands in no tree
module _ (state : State FileBlocks) (valid : IsValid state) (id : InodeId) (next : id.0 ≡ state.next_inode) where
  clash : (n : Node FileBlocks) → n.id ≡ id → n.id.0 < state.next_inode → ⊥
  clash n e lt = let same : n.id.0 ≡ id.0 = ap (λ (i : InodeId). i.0) e in omega arith

  pub new-live : Has (node_at state.tree) id → ⊥
  new-live h = clash h.node h.named (below_so state valid h.node (inl (h.at, h.is)))

  pub new-copied : (m : Member FileBlocks) → Contains state.members m → InCopy m id → ⊥
  new-copied m is_live h = clash h.node h.named (below_so state valid h.node (inr (m, in-contains state.members m is_live, (h.at, h.is))))

pub root-there : (t : Tabled) (snaps : Snapshots) (state : State FileBlocks) → StandsFor t snaps state → Has (node_at state.tree) root_id
root-there t snaps state before = let root = some_id (node_at state.tree []) root_id before.stands.live.root in record { at = []; node = root.0; is = root.1; named = root.2 }

module _ (files : Files FileBlocks) (t : Tabled) (snaps : Snapshots) (state : State FileBlocks) (above : Names) (name : List ℕ) (chain : List InodeId) (parent : Node FileBlocks)
    (before : StandsFor t snaps state) (reach : Reaches state above chain parent) (room : HasRoom state.tree (child above name)) (free : node_at state.tree (child above name) ≡ None) where
  abbrev id : InodeId
  id = record { 0 = state.next_inode }

  abbrev after : RowHistory → Tabled
  after rows = tables.made state snaps.issued.0 (way_to parent chain) name id rows t

  parent_row : LiveRow t.rows state above parent
  parent_row = live-row t state snaps.issued.0 above parent (before-of t snaps state before) reach.at

  not_new : (other : InodeId) → Has (node_at state.tree) other → other ≢ id
  not_new other h e = new-live state before.valid id refl (subst (Has (node_at state.tree)) e h)

  no_row : row_at t.rows id ≡ None
  no_row = by (row_at t.rows id) refl
    where
      by : (o : Option RowState) → row_at t.rows id ≡ o → row_at t.rows id ≡ None
      by None e = e
      by (Some row) e = absurd (let upto = before.ids id row e in let next = before.next_inode in omega (arith, upto, next))

  pub greater : t.greatest < state.next_inode
  greater = let next = before.next_inode in omega (arith, next)

  -- the new row

  came : (rows : RowHistory) → IsBare rows → stamp_of rows ≡ state.tick + 1 → Midway state.members snaps.issued.0 (state.tick + 1) 1 (id ∷ []) (inserted id rows snaps.issued.0 t) × IsLoose (inserted id rows snaps.issued.0 t).rows id
  came rows bare stamp = mid-insert state.members snaps.issued.0 (state.tick + 1) 0 [] t (begun t snaps state before) id rows no_row bare stamp (let gt = greater in omega (arith, gt)) (not_new root_id (root-there t snaps state before)) (omega arith)

  pub can-enter : (rows : RowHistory) → IsBare rows → stamp_of rows ≡ state.tick + 1 → CanChange (inserted id rows snaps.issued.0 t).rows parent.id (changes.Add name id)
  can-enter rows bare stamp = record {
    row = parent_row.row;
    there = put-there id parent.id (fresh_row rows snaps.issued.0) t.rows (not_new parent.id (record { at = above; node = parent; is = reach.at; named = refl })) ∙ parent_row.there;
    fits = fits-add parent.id id name parent_row.row.rows (ap is_dir parent_row.shows ∙ parent-dir state.tree above name parent room reach.at) (parent_row.entries name ∙ ap id_of free);
    entry = (came rows bare stamp).1;
  }

  whole-node : (call : Call) (node : Node FileBlocks) (rows : RowHistory) → change files state call ≡ with_node state (child above name) node → node.id ≡ id → node_in id 0 rows ≡ node → entries_in 0 rows ≡ [] → spot_in 0 rows ≡ record { parent = parent.id; name = name }
      → IsBare rows → stamp_of rows ≡ state.tick + 1 → StandsFor (after rows) snaps (ticked (change files state call))
  whole-node call node rows is same shows entries spot bare stamp = subst (λ (s : State FileBlocks). StandsFor (after rows) snaps (ticked s)) (sym is)
      (ended-same t (after rows) snaps state (with_node state (child above name) node) 2 before valid (record { members = refl; snapshottable = refl; next = refl }) refl stands
      (mid-in state.members snaps.issued.0 (state.tick + 1) 1 [] (inserted id rows snaps.issued.0 t) parent.id id (need_at state t.rows (way_to parent chain)) name (came rows bare stamp).0 (can-enter rows bare stamp)
      (λ e. not_new root_id (root-there t snaps state before) (sym e)) live may (omega arith))
      (omega arith) refl)
    where
      valid : IsValid (ticked (with_node state (child above name) node))
      valid = subst (λ (s : State FileBlocks). IsValid (ticked s)) is (valid-change state before.valid files call)

      new : IsNew state parent node name rows
      new = record {
        shows = ap (λ (i : InodeId). node_in i 0 rows) same ∙ shows;
        entries = entries;
        spot = spot;
        not_live = new-live state before.valid node.id (ap (λ (i : InodeId). i.0) same);
        not_copied = new-copied state before.valid node.id (ap (λ (i : InodeId). i.0) same);
      }

      may : MayRecord state.members snaps.issued.0 parent.id (can-enter rows bare stamp).row.rows (need_at state t.rows (way_to parent chain)) (state.tick + 1)
      may = may-at t snaps state above chain parent (can-enter rows bare stamp).row.rows before reach
          (ap (option_map (λ (r : RowState). r.rows)) (sym (put-there id parent.id (fresh_row rows snaps.issued.0) t.rows (not_new parent.id (record { at = above; node = parent; is = reach.at; named = refl }))) ∙ (can-enter rows bare stamp).there))

      stands : Stands (after rows).rows (with_node state (child above name) node) snaps.issued.0
      stands = subst (λ (i : InodeId). Stands (tables.made state snaps.issued.0 (way_to parent chain) name i rows t).rows (with_node state (child above name) node) snaps.issued.0) same
          (node-stands t state snaps.issued.0 above chain parent node name rows (before-of t snaps state before) reach (parent-dir state.tree above name parent room reach.at) free new)

      live : IsLive (lists_of (after rows).rows) parent.id
      live = record {
        shown = shown (after rows).rows 0;
        nodes = node_at (with_node state (child above name) node).tree;
        alike = λ i. refl;
        is = (from-valid (ticked (with_node state (child above name) node)) valid).live;
        reads = stands.live;
        has = record {
          at = above;
          node = record parent { stamp = state.tick + 1 };
          is = put_there (child above name) node (stamped state.tree (parent_of (child above name)) (state.tick + 1)) above (not_child above name)
              ∙ ap (λ (p : Names). node_at (stamped state.tree p (state.tick + 1)) above) (parent_of-last above name) ∙ node_at-stamped state.tree above parent (state.tick + 1) reach.at;
          named = refl;
        };
      }

pub may-mkdir : (t : Tabled) (snaps : Snapshots) (state : State FileBlocks) (text : List ℕ) (above : Names) (name : List ℕ) (chain : List InodeId) (parent : Node FileBlocks)
    → StandsFor t snaps state → mkdir_at state text ≡ Ok (child above name) → Reaches state above chain parent
    → MayMake t snaps.issued.0 parent.id (record { 0 = state.next_inode }) name (tables.dir_rows (record { parent = parent.id; name = name }) (state.tick + 1))
may-mkdir t snaps state text above name chain parent before asked reach = record {
  above = greater block_files t snaps state above name chain parent before reach room free;
  bare = (refl, refl);
  entry = can-enter block_files t snaps state above name chain parent before reach room free (tables.dir_rows (record { parent = parent.id; name = name }) (state.tick + 1)) (refl, refl) refl;
}
  where
    room : HasRoom state.tree (child above name)
    room = mkdir_room state text (child above name) asked

    free : node_at state.tree (child above name) ≡ None
    free = mkdir_free state text (child above name) asked

pub may-create : (files : Files FileBlocks) (t : Tabled) (snaps : Snapshots) (state : State FileBlocks) (text : List ℕ) (over : Bool) (above : Names) (name : List ℕ) (chain : List InodeId) (parent : Node FileBlocks)
    → StandsFor t snaps state → create_at state text over ≡ Ok (child above name) → Reaches state above chain parent → node_at state.tree (child above name) ≡ None
    → MayMake t snaps.issued.0 parent.id (record { 0 = state.next_inode }) name (tables.file_rows (record { parent = parent.id; name = name }) files.empty (state.tick + 1))
may-create files t snaps state text over above name chain parent before asked reach free = record {
  above = greater files t snaps state above name chain parent before reach (create_room state text over (child above name) asked) free;
  bare = refl;
  entry = can-enter files t snaps state above name chain parent before reach (create_room state text over (child above name) asked) free (tables.file_rows (record { parent = parent.id; name = name }) files.empty (state.tick + 1)) refl refl;
}

pub whole-mkdir : (files : Files FileBlocks) (t : Tabled) (snaps : Snapshots) (state : State FileBlocks) (text : List ℕ) (above : Names) (name : List ℕ) (chain : List InodeId) (parent : Node FileBlocks)
    → StandsFor t snaps state → mkdir_at state text ≡ Ok (child above name) → Reaches state above chain parent
    → StandsFor (new_dir_table state snaps.issued.0 parent chain name t) snaps (ticked (change files state (calls.Mkdir text)))
whole-mkdir files t snaps state text above name chain parent before asked reach =
    whole-node files t snaps state above name chain parent before reach (mkdir_room state text (child above name) asked) (mkdir_free state text (child above name) asked)
    (calls.Mkdir text) (new_dir state.next_inode (state.tick + 1)) (tables.dir_rows (record { parent = parent.id; name = name }) (state.tick + 1)) (ap (if_asked (made_dir state) state) asked) refl refl refl refl (refl, refl) refl

pub whole-create : (files : Files FileBlocks) (t : Tabled) (snaps : Snapshots) (state : State FileBlocks) (text : List ℕ) (over : Bool) (above : Names) (name : List ℕ) (chain : List InodeId) (parent : Node FileBlocks)
    → StandsFor t snaps state → create_at state text over ≡ Ok (child above name) → Reaches state above chain parent → node_at state.tree (child above name) ≡ None
    → StandsFor (new_file_table files state snaps.issued.0 parent chain name t) snaps (ticked (change files state (calls.Create text over)))
whole-create files t snaps state text over above name chain parent before asked reach free =
    whole-node files t snaps state above name chain parent before reach (create_room state text over (child above name) asked) free
    (calls.Create text over) (new_file files state.next_inode (state.tick + 1)) (tables.file_rows (record { parent = parent.id; name = name }) files.empty (state.tick + 1)) (ap (if_asked (made_file files state) state) asked) refl refl refl refl refl refl
