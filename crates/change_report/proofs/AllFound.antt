-- Each line that is so is found, where all inodes that have changed are looked at.
use Rattle.std.proofs.Common.{◌≡◌, ◌⊎◌, inl, inr, ⊎_elim, ℕ, not, true, false, cond, ◌&&◌, ◌==◌, Option, Some, None, List, [], ◌∷◌, ◌++◌, refl, ap, sym, subst, ◌∙◌}
use Rattle.std.specs.Prelude.{bytes_eq}
use Rattle.std.proofs.lemmas.Bool.Decides.{Decides-eqb}
use Rattle.std.proofs.lemmas.Slice.Eq.{bytes_eq-Decides}
use Rattle.hs_types.specs.Names.{Names}
use Rattle.hs_types.specs.declared.ids.InodeId.{InodeId}
use Rattle.hs_types.specs.declared.name.Spot.{Spot}
use Rattle.hs_types.specs.declared.reply.Line.{Line}
use Rattle.hs_types.specs.declared.reply.LineKind.TheVariants.{Deleted, Renamed, Modified, Created}
use Rattle.hs_plain.specs.declared.state.Node.{Node}
use Rattle.hs_plain.specs.declared.state.State.{State}
use Rattle.hs_plain.specs.declared.state.FileBlocks.{FileBlocks}
use Rattle.hs_plain.specs.Tree.{same_inode}
use Rattle.hs_plain.proofs.ValidLists.{In, in-left, in-right, in-flat_map, in-filter_map, false_by, neither}
use Rattle.hs_plain.proofs.ValidMembers.{inode_so}
use Rattle.hs_plain.proofs.ValidTrees.{both, first, second}
use Rattle.hs_plain.proofs.ValidShapes.{none_some, not_last}
use Rattle.dir_changes.specs.Entries.{Entry, id_at, holds}
use Rattle.dir_changes.specs.History.{DirHistory, children_at}
use Rattle.dir_changes.proofs.UndoLaw.{is_that_so}
use Rattle.snapshot_manager.specs.Snapshots.{Snapshots}
use Rattle.inode_table.specs.Reads.{Nodes, ReadsAs, IsNodes, Has, child, id_of}
use Rattle.inode_table.specs.RowHistory.{RowHistory, File, Dir, rows_at, shown, spot_in, entries_of}
use Rattle.inode_table.specs.Tabled.{Tabled}
use Rattle.inode_table.specs.Whole.{StandsFor}
use Rattle.inode_table.proofs.Covers.{some_id}
use Rattle.path_resolver.specs.ByRows.{is_dir_row}
use Rattle.path_resolver.specs.Rising.{way_down}
use Rattle.table_laws.specs.RecordFound.{SameAt}
use Rattle.change_report.specs.declared.ends.Ends.{Ends}
use Rattle.change_report.specs.declared.ends.Side.{Side}
use Rattle.change_report.specs.Found.{gone_side, new_side, row_line, stamp_in, same_spot, has_stayed, own_lines, is_alone, entry_line, side_lines, list_lines, paths_of, both_paths, lines_at, lines_by, row_lines, all_lines}
use Rattle.change_report.specs.LineKinds.{Gone, Moved, Stamped, New, IsLine}
use Rattle.change_report.proofs.AtEnd.{finds, missing, HasRow, has-row, is-dir, stamp-is, spot-is, kids-are}
use Rattle.change_report.proofs.Entries.{found-in}
use Rattle.change_report.proofs.PlainLines.{line_if-here, line_if-later}

module _ (t : Tabled) (snaps : Snapshots) (state : State FileBlocks) (all : StandsFor t snaps state) (ends : Ends) (f g : Nodes FileBlocks)
    (f_is : IsNodes f) (g_is : IsNodes g) (f_reads : ReadsAs (shown t.rows ends.from.0) ends.root f) (g_reads : ReadsAs (shown t.rows ends.to.0) ends.root g)
    (ids : List InodeId) (found : (x : InodeId) → Has f x → Has g x → SameAt f g x ⊎ In ids x) where
  has : (h : Nodes FileBlocks) (p : Names) (n : Node FileBlocks) (x : InodeId) → h p ≡ Some n → n.id ≡ x → Has h x
  has h p n x at named = record { at = p; node = n; is = at; named = named }

  -- the lines of an inode that stands at both ends
  module _ (old new : Names) (a b : Node FileBlocks) (stood : f old ≡ Some a) (stands : g new ≡ Some b) (same : b.id ≡ a.id) where
    there-too : (rows : RowHistory) → rows_at t.rows a.id ≡ Some rows → rows_at t.rows b.id ≡ Some rows
    there-too rows there = ap (rows_at t.rows) same ∙ there

    ways : both_paths t ends a.id ≡ Some (record { old = old; new = new })
    ways =
        ap (λ w. paths_of w (way_down t ends.to.0 ends.root a.id)) (finds t snaps state all ends.root ends.from f f_is f_reads old a stood)
        ∙ ap (paths_of (Some old)) (ap (way_down t ends.to.0 ends.root) (sym same) ∙ finds t snaps state all ends.root ends.to g g_is g_reads new b stands)

    in-all : In ids a.id → (rows : RowHistory) → rows_at t.rows a.id ≡ Some rows → (line : Line) → In (own_lines ends a.id rows old new ++ list_lines t ends old rows) line → In (all_lines t ends ids) line
    in-all at rows there line is = in-flat_map (row_lines t ends) ids a.id line at
        (subst (λ o. In (lines_by t ends a.id o) line) (sym there) (subst (λ w. In (lines_at t ends a.id rows w) line) (sym ways) is))

    in-own : In ids a.id → (rows : RowHistory) → rows_at t.rows a.id ≡ Some rows → (line : Line) → In (own_lines ends a.id rows old new) line → In (all_lines t ends ids) line
    in-own at rows there line is = in-all at rows there line (in-left (own_lines ends a.id rows old new) (list_lines t ends old rows) line is)

    in-lists : In ids a.id → (dir : DirHistory) → rows_at t.rows a.id ≡ Some (Dir dir) → (line : Line) → In (side_lines t (gone_side ends) old dir ++ side_lines t (new_side ends) old dir) line → In (all_lines t ends ids) line
    in-lists at dir there line is = in-all at (Dir dir) there line (in-right (own_lines ends a.id (Dir dir) old new) (list_lines t ends old (Dir dir)) line is)

    -- a row that lists an entry is a directory's
    record IsDirRow : Type 0 where
      dir : DirHistory
      there : rows_at t.rows a.id ≡ Some (Dir dir)

    is-dir-row : (s : ℕ) (name : List ℕ) (id : InodeId) → id_at name ((shown t.rows s).entries a.id) ≡ Some id → IsDirRow
    is-dir-row s name id h = by (rows_at t.rows a.id) refl h
      where
        by : (o : Option RowHistory) → rows_at t.rows a.id ≡ o → id_at name (entries_of s o) ≡ Some id → IsDirRow
        by None e k = absurd (none_some k)
        by (Some (File file)) e k = absurd (none_some k)
        by (Some (Dir dir)) e k = record { dir = dir; there = e }

  alone-line : (side : Side) (path : Names) (dir : DirHistory) (e : Entry) → is_alone t side dir e ≡ true → entry_line t side path dir e ≡ Some (row_line side.kind (path ++ e.0 ∷ []) None e.1 (is_dir_row (rows_at t.rows e.1)))
  alone-line side path dir e h = ap (λ b. cond b (Some (row_line side.kind (path ++ e.0 ∷ []) None e.1 (is_dir_row (rows_at t.rows e.1)))) None) h

  -- ---- gone

  gone-in : (line : Line) → Gone f g line → In (all_lines t ends ids) line
  gone-in line gone = in-lists gone.at gone.stays.at gone.dir gone.stays.node gone.stood.above gone.stays.is gone.stays.named at r.dir r.there line
      (in-left (side_lines t (gone_side ends) gone.at r.dir) (side_lines t (new_side ends) gone.at r.dir) line
      (in-filter_map (entry_line t (gone_side ends) gone.at r.dir) (children_at ends.from.0 r.dir) e line (found-in gone.name (children_at ends.from.0 r.dir) gone.node.id here)
      (alone-line (gone_side ends) gone.at r.dir e alone
      ∙ ap (λ b. Some (row_line Deleted (child gone.at gone.name) None gone.node.id b)) (is-dir t snaps state all ends.root ends.from f f_is f_reads (child gone.at gone.name) gone.node gone.stood.here)
      ∙ ap (λ (l : Line). Some l) (sym gone.so))))
    where
      e : Entry
      e = (gone.name, gone.node.id)

      at : In ids gone.dir.id
      at = ⊎_elim
          (λ (same : SameAt f g gone.dir.id). absurd (
          let kid = some_id (g (child gone.stays.at gone.name)) gone.node.id
          (sym (same.kids gone.at gone.stays.at gone.dir gone.stays.node gone.name gone.stood.above gone.stays.is refl gone.stays.named) ∙ ap id_of gone.stood.here) in
          gone.absent (has g (child gone.stays.at gone.name) kid.0 gone.node.id kid.1 kid.2)))
          (λ c. c) (found gone.dir.id (has f gone.at gone.dir gone.dir.id gone.stood.above refl) gone.stays)

      r : IsDirRow gone.at gone.stays.at gone.dir gone.stays.node gone.stood.above gone.stays.is gone.stays.named
      r = is-dir-row gone.at gone.stays.at gone.dir gone.stays.node gone.stood.above gone.stays.is gone.stays.named ends.from.0 gone.name gone.node.id
          (f_reads.entries gone.at gone.dir gone.name gone.stood.above ∙ ap id_of gone.stood.here)

      here : id_at gone.name (children_at ends.from.0 r.dir) ≡ Some gone.node.id
      here = kids-are t snaps state all ends.root ends.from f f_is f_reads gone.at gone.dir r.dir gone.name gone.stood.above r.there ∙ ap id_of gone.stood.here

      not-held : holds (children_at ends.to.0 r.dir) e ≡ false
      not-held = false_by (holds (children_at ends.to.0 r.dir) e) (λ h.
          let kid = some_id (g (child gone.stays.at gone.name)) gone.node.id
          (sym (kids-are t snaps state all ends.root ends.to g g_is g_reads gone.stays.at gone.stays.node r.dir gone.name gone.stays.is (ap (rows_at t.rows) gone.stays.named ∙ r.there)) ∙ is_that_so gone.node.id (id_at gone.name (children_at ends.to.0 r.dir)) h) in
          gone.absent (has g (child gone.stays.at gone.name) kid.0 gone.node.id kid.1 kid.2))

      alone : is_alone t (gone_side ends) r.dir e ≡ true
      alone = both (ap not not-held) (ap not (missing t snaps state all ends.root ends.to g g_is g_reads gone.node.id gone.absent))

  -- ---- new

  new-in : (line : Line) → New f g line → In (all_lines t ends ids) line
  new-in line new = in-lists new.dir_at new.at new.old_dir new.dir new.was new.stands.above (sym new.same) at r.dir r.there line
      (in-right (side_lines t (gone_side ends) new.dir_at r.dir) (side_lines t (new_side ends) new.dir_at r.dir) line
      (in-filter_map (entry_line t (new_side ends) new.dir_at r.dir) (children_at ends.to.0 r.dir) e line (found-in new.name (children_at ends.to.0 r.dir) new.node.id here)
      (alone-line (new_side ends) new.dir_at r.dir e alone
      ∙ ap (λ b. Some (row_line Created (child new.dir_at new.name) None new.node.id b)) (is-dir t snaps state all ends.root ends.to g g_is g_reads (child new.at new.name) new.node new.stands.here)
      ∙ ap (λ (l : Line). Some l) (sym new.so))))
    where
      e : Entry
      e = (new.name, new.node.id)

      at : In ids new.old_dir.id
      at = ⊎_elim
          (λ (same : SameAt f g new.old_dir.id). absurd (
          let kid = some_id (f (child new.dir_at new.name)) new.node.id
          (same.kids new.dir_at new.at new.old_dir new.dir new.name new.was new.stands.above refl (sym new.same) ∙ ap id_of new.stands.here) in
          new.absent (has f (child new.dir_at new.name) kid.0 new.node.id kid.1 kid.2)))
          (λ c. c) (found new.old_dir.id (has f new.dir_at new.old_dir new.old_dir.id new.was refl) (has g new.at new.dir new.old_dir.id new.stands.above (sym new.same)))

      r : IsDirRow new.dir_at new.at new.old_dir new.dir new.was new.stands.above (sym new.same)
      r = is-dir-row new.dir_at new.at new.old_dir new.dir new.was new.stands.above (sym new.same) ends.to.0 new.name new.node.id
          (ap (λ (i : InodeId). id_at new.name ((shown t.rows ends.to.0).entries i)) new.same ∙ g_reads.entries new.at new.dir new.name new.stands.above ∙ ap id_of new.stands.here)

      here : id_at new.name (children_at ends.to.0 r.dir) ≡ Some new.node.id
      here = kids-are t snaps state all ends.root ends.to g g_is g_reads new.at new.dir r.dir new.name new.stands.above (ap (rows_at t.rows) (sym new.same) ∙ r.there) ∙ ap id_of new.stands.here

      not-held : holds (children_at ends.from.0 r.dir) e ≡ false
      not-held = false_by (holds (children_at ends.from.0 r.dir) e) (λ h.
          let kid = some_id (f (child new.dir_at new.name)) new.node.id
          (sym (kids-are t snaps state all ends.root ends.from f f_is f_reads new.dir_at new.old_dir r.dir new.name new.was r.there) ∙ is_that_so new.node.id (id_at new.name (children_at ends.from.0 r.dir)) h) in
          new.absent (has f (child new.dir_at new.name) kid.0 new.node.id kid.1 kid.2))

      alone : is_alone t (new_side ends) r.dir e ≡ true
      alone = both (ap not not-held) (ap not (missing t snaps state all ends.root ends.from f f_is f_reads new.node.id new.absent))

  -- ---- moved, and with another stamp

  moved-in : (line : Line) → Moved f g line → In (all_lines t ends ids) line
  moved-in line m = in-own old new m.old m.new m.stood.here m.stands.here (sym m.same) at row.rows row.there line
      (line_if-here (not (has_stayed ends m.old.id row.rows)) (row_line Renamed old (Some new) m.old.id (is_dir_row (Some row.rows))) _ line (ap not has-moved)
      (ap (row_line Renamed old (Some new) m.old.id) (ap is_dir_row (sym row.there) ∙ is-dir t snaps state all ends.root ends.from f f_is f_reads old m.old m.stood.here) ∙ sym m.so))
    where
      old : Names
      old = child m.old_at m.old_name

      new : Names
      new = child m.new_at m.new_name

      row : HasRow t ends.from.0 m.old
      row = has-row t snaps state all ends.root ends.from f f_is f_reads old m.old m.stood.here

      at : In ids m.old.id
      at = ⊎_elim
          (λ (same : SameAt f g m.old.id). absurd (let w = same.name m.old_at m.new_at m.old_name m.new_name m.old_dir m.new_dir m.old m.new m.stood.above m.stood.here m.stands.above m.stands.here refl (sym m.same) in m.other w.0 w.1))
          (λ c. c) (found m.old.id (has f old m.old m.old.id m.stood.here refl) (has g new m.new m.old.id m.stands.here (sym m.same)))

      not-root : same_inode m.old.id ends.root ≡ false
      not-root = false_by (same_inode m.old.id ends.root) (λ h.
          let r = some_id (f []) ends.root f_reads.root in
          not_last m.old_at m.old_name (f_is.once old [] m.old r.0 m.stood.here r.1 (inode_so m.old.id ends.root h ∙ sym r.2)))

      spots : same_spot (spot_in ends.from.0 row.rows) (spot_in ends.to.0 row.rows) ≡ (same_inode m.old_dir.id m.new_dir.id && bytes_eq m.old_name m.new_name)
      spots =
          ap (λ (s : Spot). same_spot s (spot_in ends.to.0 row.rows)) (spot-is t snaps state all ends.root ends.from f f_is f_reads m.old_at m.old_name m.old_dir m.old row.rows m.stood row.there)
          ∙ ap (same_spot (record { parent = m.old_dir.id; name = m.old_name })) (spot-is t snaps state all ends.root ends.to g g_is g_reads m.new_at m.new_name m.new_dir m.new row.rows m.stands (ap (rows_at t.rows) (sym m.same) ∙ row.there))

      has-moved : has_stayed ends m.old.id row.rows ≡ false
      has-moved = neither not-root (spots ∙ false_by _ (λ h. m.other
          (inode_so m.old_dir.id m.new_dir.id (first (same_inode m.old_dir.id m.new_dir.id) _ h))
          ((bytes_eq-Decides m.old_name m.new_name).0 (second (same_inode m.old_dir.id m.new_dir.id) _ h))))

  stamped-in : (line : Line) → Stamped f g line → In (all_lines t ends ids) line
  stamped-in line m = in-own m.old_at m.new_at m.old m.new m.stood m.stands (sym m.same) at row.rows row.there line
      (line_if-later (not (has_stayed ends m.old.id row.rows)) (row_line Renamed m.old_at (Some m.new_at) m.old.id (is_dir_row (Some row.rows))) _ line
      (line_if-here (not (stamp_in ends.from.0 row.rows == stamp_in ends.to.0 row.rows)) (row_line Modified m.old_at None m.old.id (is_dir_row (Some row.rows))) [] line
      (ap not (stamps ∙ false_by (m.old.stamp == m.new.stamp) (λ h. m.other ((Decides-eqb m.old.stamp m.new.stamp).0 h))))
      (ap (row_line Modified m.old_at None m.old.id) (ap is_dir_row (sym row.there) ∙ is-dir t snaps state all ends.root ends.from f f_is f_reads m.old_at m.old m.stood) ∙ sym m.so)))
    where
      row : HasRow t ends.from.0 m.old
      row = has-row t snaps state all ends.root ends.from f f_is f_reads m.old_at m.old m.stood

      at : In ids m.old.id
      at = ⊎_elim
          (λ (same : SameAt f g m.old.id). absurd (m.other (ap (λ (n : Node FileBlocks). n.stamp) (same.node m.old_at m.new_at m.old m.new m.stood m.stands refl (sym m.same)))))
          (λ c. c) (found m.old.id (has f m.old_at m.old m.old.id m.stood refl) (has g m.new_at m.new m.old.id m.stands (sym m.same)))

      stamps : (stamp_in ends.from.0 row.rows == stamp_in ends.to.0 row.rows) ≡ (m.old.stamp == m.new.stamp)
      stamps = (λ i. stamp-is t snaps state all ends.root ends.from f f_is f_reads m.old_at m.old row.rows m.stood row.there i
          == stamp-is t snaps state all ends.root ends.to g g_is g_reads m.new_at m.new row.rows m.stands (ap (rows_at t.rows) (sym m.same) ∙ row.there) i)

  pub all-found : (line : Line) → IsLine f g line → In (all_lines t ends ids) line
  all-found line (inl gone) = gone-in line gone
  all-found line (inr (inl moved)) = moved-in line moved
  all-found line (inr (inr (inl stamped))) = stamped-in line stamped
  all-found line (inr (inr (inr new))) = new-in line new
