-- A report looks at no file, so between trees with files kept in another way it has the same lines.
use Rattle.std.proofs.Common.{◌≡◌, ℕ, ◌&&◌, ◌||◌, ◌==◌, bytes_eq, Bool, true, false, cond, Option, Some, None, Ok, is_some, List, [], ◌∷◌, ◌++◌, map, length, drop, refl, ap, ◌∙◌}
use Rattle.std.specs.Prelude.{not}
use Rattle.std.specs.Option.{option_map}
use Rattle.std.specs.List.{cons_option, filter, filter_map, flat_map}
use Rattle.hs_types.specs.Names.{Names}
use Rattle.hs_types.specs.declared.ids.InodeId.{InodeId}
use Rattle.hs_types.specs.declared.ids.SnapId.{SnapId}
use Rattle.hs_types.specs.declared.call.Point.{Point}
use Rattle.hs_types.specs.declared.call.Point.TheVariants.{Snapshot, Now}
use Rattle.hs_types.specs.declared.call.ReportCursor.{ReportCursor}
use Rattle.hs_types.specs.declared.refusal.Refusal.TheVariants.{NotSnapshottable, NoSnapshot, Gone, Moved}
use Rattle.hs_types.specs.declared.reply.Line.{Line}
use Rattle.hs_types.specs.declared.reply.LineKind.{LineKind}
use Rattle.hs_types.specs.declared.reply.LineKind.TheVariants.{Deleted, Renamed, Modified, Created}
use Rattle.hs_types.specs.declared.reply.Reply.{Reply}
use Rattle.hs_plain.specs.declared.state.Node.{Node}
use Rattle.hs_plain.specs.declared.state.Member.{Member}
use Rattle.hs_plain.specs.declared.state.State.{State}
use Rattle.hs_plain.specs.Asked.{Asked, ◌>>=◌, refuse_if}
use Rattle.hs_plain.specs.Tree.{Tree, node_at, parent_of, is_root_path, is_under, subtree, same_inode, place_of}
use Rattle.hs_plain.specs.State.{is_snapshottable}
use Rattle.hs_plain.specs.Pages.{lines_page}
use Rattle.hs_plain.specs.Report.{node_id, id_above, last_of, same_id, same_place, has_id, parent_stays, is_changed, line_of, line_if, lines_by, lines_from, place_above, created_in, created_by, created, with_lines, report}
use Rattle.hs_plain.specs.Reading.{is_deleted, snapshottable_at, point_id, copied_tree, tree_below, end_tree, lines_between, began_at, report_page, report_reply, is_foreign, has_moved, report_next_reply}
use Rattle.hs_plain.specs.Viewed.{viewed_node, viewed_place, viewed_tree, viewed_member, viewed}
use Rattle.hs_plain.proofs.Viewed.{then-same, is_dir_body-viewed, node_at-viewed, place_of-viewed, is_live-viewed}
use Rattle.hs_plain.proofs.ViewedSnapshots.{any_member-viewed, snapshot_named-viewed, snapshottable_at-viewed}

-- a place below a directory, with its path from there
abbrev cut : {B : Type 0} → Names → Names × Node B → Names × Node B
cut path place = (drop (length path) place.0, place.1)

module _ {A B : Type 0} (read : A → B) where
  pub subtree-viewed : (tree : Tree A) (path : Names) → subtree (viewed_tree read tree) path ≡ viewed_tree read (subtree tree path)
  subtree-viewed [] path = refl
  subtree-viewed (place ∷ tree) path =
      elim (is_under path place) as (λ b. map (cut path) (cond b (viewed_place read place ∷ filter (is_under path) (viewed_tree read tree)) (filter (is_under path) (viewed_tree read tree)))
      ≡ viewed_tree read (map (cut path) (cond b (place ∷ filter (is_under path) tree) (filter (is_under path) tree)))) [
        | true ↦ ap (λ (rest : Tree B). viewed_place read (cut path place) ∷ rest) (subtree-viewed tree path)
        | false ↦ subtree-viewed tree path
      ]

  -- ---- where a node stands

  node_id-viewed : (node : Option (Node A)) → option_map node_id (option_map (viewed_node read) node) ≡ option_map node_id node
  node_id-viewed None = refl
  node_id-viewed (Some node) = refl

  id_above-viewed : (tree : Tree A) (path : Names) → id_above (viewed_tree read tree) path ≡ id_above tree path
  id_above-viewed tree path = ap (option_map node_id) (node_at-viewed read tree (parent_of path)) ∙ node_id-viewed (node_at tree (parent_of path))

  same_place-viewed : (from to : Tree A) (old new : Names) → same_place (viewed_tree read from) (viewed_tree read to) old new ≡ same_place from to old new
  same_place-viewed from to old new =
      let same : Option InodeId → Option InodeId → Bool = λ a b. is_root_path old || (same_id a b && bytes_eq (last_of old) (last_of new)) in
      ap (λ (a : Option InodeId). same a (id_above (viewed_tree read to) new)) (id_above-viewed from old) ∙ ap (same (id_above from old)) (id_above-viewed to new)

  is_placed-viewed : (place : Option (Names × Node A)) → is_some (option_map (viewed_place read) place) ≡ is_some place
  is_placed-viewed None = refl
  is_placed-viewed (Some place) = refl

  has_id-viewed : (tree : Tree A) (id : Option InodeId) → has_id (viewed_tree read tree) id ≡ has_id tree id
  has_id-viewed tree None = refl
  has_id-viewed tree (Some id) = ap is_some (place_of-viewed read tree id) ∙ is_placed-viewed (place_of tree id)

  parent_stays-viewed : (from to : Tree A) (path : Names) → parent_stays (viewed_tree read from) (viewed_tree read to) path ≡ parent_stays from to path
  parent_stays-viewed from to path = ap (has_id (viewed_tree read to)) (id_above-viewed from path) ∙ has_id-viewed to (id_above from path)

  -- ---- lines

  line_of-viewed : (kind : LineKind) (path : Names) (to : Option Names) (node : Node A) → line_of kind path to (viewed_node read node) ≡ line_of kind path to node
  line_of-viewed kind path to node = ap (λ b. record { kind = kind; path = path; to = to; id = node.id; is_dir = b }) (is_dir_body-viewed read node.body)

  lines_by-viewed : (from to : Tree A) (place : Names × Node A) (other : Option (Names × Node A)) → lines_by (viewed_tree read from) (viewed_tree read to) (viewed_place read place) (option_map (viewed_place read) other) ≡ lines_by from to place other
  lines_by-viewed from to place None =
      ap (λ b. line_if b (line_of Deleted place.0 None (viewed_node read place.1)) []) (parent_stays-viewed from to place.0)
      ∙ ap (λ (line : Line). line_if (parent_stays from to place.0) line []) (line_of-viewed Deleted place.0 None place.1)
  lines_by-viewed from to place (Some other) =
      let lines : Bool → Line → Line → List Line = λ same moved changed. line_if (not same) moved (line_if (is_changed place.1 other.1) changed []) in
      let stays = same_place from to place.0 other.0 in
      ap (λ b. lines b (line_of Renamed place.0 (Some other.0) (viewed_node read place.1)) (line_of Modified place.0 None (viewed_node read place.1))) (same_place-viewed from to place.0 other.0)
      ∙ ap (λ (line : Line). lines stays line (line_of Modified place.0 None (viewed_node read place.1))) (line_of-viewed Renamed place.0 (Some other.0) place.1)
      ∙ ap (lines stays (line_of Renamed place.0 (Some other.0) place.1)) (line_of-viewed Modified place.0 None place.1)

  lines_from-viewed : (from to : Tree A) (place : Names × Node A) → lines_from (viewed_tree read from) (viewed_tree read to) (viewed_place read place) ≡ lines_from from to place
  lines_from-viewed from to place =
      ap (lines_by (viewed_tree read from) (viewed_tree read to) (viewed_place read place)) (place_of-viewed read to place.1.id) ∙ lines_by-viewed from to place (place_of to place.1.id)

  created_in-viewed : (place : Names × Node A) (dir : Option (Names × Node A)) → created_in (viewed_place read place) (option_map (viewed_place read) dir) ≡ created_in place dir
  created_in-viewed place None = refl
  created_in-viewed place (Some dir) = ap (λ (line : Line). Some line) (line_of-viewed Created (dir.0 ++ last_of place.0 ∷ []) None place.1)

  place_above-viewed : (tree : Tree A) (id : Option InodeId) → place_above (viewed_tree read tree) id ≡ option_map (viewed_place read) (place_above tree id)
  place_above-viewed tree None = refl
  place_above-viewed tree (Some id) = place_of-viewed read tree id

  created_by-viewed : (from to : Tree A) (place : Names × Node A) (other : Option (Names × Node A)) → created_by (viewed_tree read from) (viewed_tree read to) (viewed_place read place) (option_map (viewed_place read) other) ≡ created_by from to place other
  created_by-viewed from to place None =
      ap (λ (id : Option InodeId). created_in (viewed_place read place) (place_above (viewed_tree read from) id)) (id_above-viewed to place.0)
      ∙ ap (created_in (viewed_place read place)) (place_above-viewed from (id_above to place.0))
      ∙ created_in-viewed place (place_above from (id_above to place.0))
  created_by-viewed from to place (Some other) = refl

  created-viewed : (from to : Tree A) (place : Names × Node A) → created (viewed_tree read from) (viewed_tree read to) (viewed_place read place) ≡ created from to place
  created-viewed from to place =
      ap (created_by (viewed_tree read from) (viewed_tree read to) (viewed_place read place)) (place_of-viewed read from place.1.id) ∙ created_by-viewed from to place (place_of from place.1.id)

  -- ---- whole reports

  all_lines-viewed : (from to places : Tree A) → flat_map (lines_from (viewed_tree read from) (viewed_tree read to)) (viewed_tree read places) ≡ flat_map (lines_from from to) places
  all_lines-viewed from to [] = refl
  all_lines-viewed from to (place ∷ places) =
      ap (λ (lines : List Line). lines ++ flat_map (lines_from (viewed_tree read from) (viewed_tree read to)) (viewed_tree read places)) (lines_from-viewed from to place)
      ∙ ap (λ (rest : List Line). lines_from from to place ++ rest) (all_lines-viewed from to places)

  all_created-viewed : (from to places : Tree A) → filter_map (created (viewed_tree read from) (viewed_tree read to)) (viewed_tree read places) ≡ filter_map (created from to) places
  all_created-viewed from to [] = refl
  all_created-viewed from to (place ∷ places) =
      ap (λ (line : Option Line). cons_option line (filter_map (created (viewed_tree read from) (viewed_tree read to)) (viewed_tree read places))) (created-viewed from to place)
      ∙ ap (cons_option (created from to place)) (all_created-viewed from to places)

  pub report-viewed : (from to : Tree A) → report (viewed_tree read from) (viewed_tree read to) ≡ report from to
  report-viewed from to =
      ap (λ (lines : List Line). with_lines lines (flat_map (lines_from (viewed_tree read from) (viewed_tree read to)) (viewed_tree read from))) (all_created-viewed from to to)
      ∙ ap (with_lines (filter_map (created from to) to)) (all_lines-viewed from to from)

  -- ---- the ends of a report

  tree_below-viewed : (tree : Tree A) (place : Option (Names × Node A)) → tree_below (viewed_tree read tree) (option_map (viewed_place read) place) ≡ viewed_tree read (tree_below tree place)
  tree_below-viewed tree None = refl
  tree_below-viewed tree (Some place) = subtree-viewed tree place.0

  copied_tree-viewed : (members : List (Member A)) (snapshot : SnapId) → copied_tree (map (viewed_member read) members) snapshot ≡ viewed_tree read (copied_tree members snapshot)
  copied_tree-viewed [] snapshot = refl
  copied_tree-viewed (m ∷ ms) snapshot =
      elim (m.snapshot.0 == snapshot.0) as (λ b. cond b (viewed_tree read m.tree) (copied_tree (map (viewed_member read) ms) snapshot) ≡ viewed_tree read (cond b m.tree (copied_tree ms snapshot))) [
        | true ↦ refl
        | false ↦ copied_tree-viewed ms snapshot
      ]

  live_end-viewed : (tree : Tree A) (root : InodeId) → tree_below (viewed_tree read tree) (place_of (viewed_tree read tree) root) ≡ viewed_tree read (tree_below tree (place_of tree root))
  live_end-viewed tree root = ap (tree_below (viewed_tree read tree)) (place_of-viewed read tree root) ∙ tree_below-viewed tree (place_of tree root)

  pub end_tree-viewed : (state : State A) (root : InodeId) (end : SnapId) → end_tree (viewed read state) root end ≡ viewed_tree read (end_tree state root end)
  end_tree-viewed state root end =
      elim (end.0 == 0) as (λ b. cond b (tree_below (viewed_tree read state.tree) (place_of (viewed_tree read state.tree) root)) (copied_tree (map (viewed_member read) state.members) end)
      ≡ viewed_tree read (cond b (tree_below state.tree (place_of state.tree root)) (copied_tree state.members end))) [
        | true ↦ live_end-viewed state.tree root
        | false ↦ copied_tree-viewed state.members end
      ]

  pub lines_between-viewed : (state : State A) (root : InodeId) (from to : SnapId) → lines_between (viewed read state) root from to ≡ lines_between state root from to
  lines_between-viewed state root from to =
      ap (λ (tree : Tree B). report tree (end_tree (viewed read state) root to)) (end_tree-viewed state root from)
      ∙ ap (report (viewed_tree read (end_tree state root from))) (end_tree-viewed state root to)
      ∙ report-viewed (end_tree state root from) (end_tree state root to)

  report_page-viewed : (state : State A) (cursor : ReportCursor) (size : ℕ) → report_page (viewed read state) cursor size ≡ report_page state cursor size
  report_page-viewed state cursor size = ap (λ (lines : List Line). lines_page cursor (began_at state.tick cursor.tick) lines size) (lines_between-viewed state cursor.root cursor.from cursor.to)

  -- ---- calls

  point_id-viewed : (state : State A) (dir : InodeId) (point : Point) → point_id (viewed read state) dir point ≡ point_id state dir point
  point_id-viewed state dir (Snapshot name) = snapshot_named-viewed read state.members dir name
  point_id-viewed state dir Now = refl

  -- the first page, from one id to another
  abbrev first_lines : {C : Type 0} → State C → InodeId → ℕ → SnapId → SnapId → Asked Reply
  first_lines state root size from to = Ok (report_page state (record { root = root; from = from; to = to; tick = None; index = 0 }) size)

  abbrev report_on : {C : Type 0} → State C → Point → Point → ℕ → InodeId → Asked Reply
  report_on state from to size root = point_id state root from >>= λ first. (point_id state root to >>= first_lines state root size first)

  report_on-viewed : (state : State A) (from to : Point) (size : ℕ) (root : InodeId) → report_on (viewed read state) from to size root ≡ report_on state from to size root
  report_on-viewed state from to size root =
      let first_end = point_id state root from in
      let last_end = point_id state root to in
      ap (λ (id : Asked SnapId). id >>= λ first. (point_id (viewed read state) root to >>= first_lines (viewed read state) root size first)) (point_id-viewed state root from)
      ∙ ap (λ (id : Asked SnapId). first_end >>= λ first. (id >>= first_lines (viewed read state) root size first)) (point_id-viewed state root to)
      ∙ then-same first_end (λ first. last_end >>= first_lines (viewed read state) root size first) (λ first. last_end >>= first_lines state root size first)
      (λ first. then-same last_end (first_lines (viewed read state) root size first) (first_lines state root size first)
      (λ last. ap (λ (reply : Reply). Ok reply) (report_page-viewed state (record { root = root; from = first; to = last; tick = None; index = 0 }) size)))

  pub report_reply-viewed : (state : State A) (text : List ℕ) (from to : Point) (size : ℕ) → report_reply (viewed read state) text from to size ≡ report_reply state text from to size
  report_reply-viewed state text from to size =
      ap (λ (root : Asked InodeId). root >>= report_on (viewed read state) from to size) (snapshottable_at-viewed read state text)
      ∙ then-same (snapshottable_at state text) (report_on (viewed read state) from to size) (report_on state from to size) (report_on-viewed state from to size)

  is_deleted-viewed : (state : State A) (snapshot : SnapId) → is_deleted (viewed read state) snapshot ≡ is_deleted state snapshot
  is_deleted-viewed state snapshot = ap (λ b. not (snapshot.0 == 0) && not b) (is_live-viewed read state.members snapshot)

  is_foreign-viewed : (state : State A) (root : InodeId) (end : SnapId) → is_foreign (viewed read state) root end ≡ is_foreign state root end
  is_foreign-viewed state root end =
      ap (λ b. not (end.0 == 0) && not b)
      (any_member-viewed read (λ member. member.snapshot.0 == end.0 && same_inode member.directory root) (λ member. member.snapshot.0 == end.0 && same_inode member.directory root) (λ member. refl) state.members)

  -- the tests of a page that isn't the first, and the page
  abbrev rest_of_report : State A → ReportCursor → Bool → Bool → Bool → Bool → Reply → Asked Reply
  rest_of_report state cursor first_gone last_gone first_foreign last_foreign page = do
    live ← refuse_if (first_gone || last_gone) Gone
    there ← refuse_if (not (is_snapshottable state cursor.root)) NotSnapshottable
    own ← refuse_if (first_foreign || last_foreign) NoSnapshot
    still ← refuse_if (has_moved state cursor) (Moved (began_at state.tick cursor.tick) state.tick)
    Ok page

  pub report_next_reply-viewed : (state : State A) (cursor : ReportCursor) (size : ℕ) → report_next_reply (viewed read state) cursor size ≡ report_next_reply state cursor size
  report_next_reply-viewed state cursor size =
      let rest = rest_of_report state cursor in
      let other = viewed read state in
      ap (λ b. rest b (is_deleted other cursor.to) (is_foreign other cursor.root cursor.from) (is_foreign other cursor.root cursor.to) (report_page other cursor size)) (is_deleted-viewed state cursor.from)
      ∙ ap (λ b. rest (is_deleted state cursor.from) b (is_foreign other cursor.root cursor.from) (is_foreign other cursor.root cursor.to) (report_page other cursor size)) (is_deleted-viewed state cursor.to)
      ∙ ap (λ b. rest (is_deleted state cursor.from) (is_deleted state cursor.to) b (is_foreign other cursor.root cursor.to) (report_page other cursor size)) (is_foreign-viewed state cursor.root cursor.from)
      ∙ ap (λ b. rest (is_deleted state cursor.from) (is_deleted state cursor.to) (is_foreign state cursor.root cursor.from) b (report_page other cursor size)) (is_foreign-viewed state cursor.root cursor.to)
      ∙ ap (rest (is_deleted state cursor.from) (is_deleted state cursor.to) (is_foreign state cursor.root cursor.from) (is_foreign state cursor.root cursor.to)) (report_page-viewed state cursor size)
