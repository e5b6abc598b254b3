-- The lines that are found by rows are exactly those that are so, where all inodes that have changed are looked at.
use Rattle.std.proofs.Common.{◌≡◌, ◌⊎◌, inl, inr, ℕ, not, Bool, true, false, cond, ◌&&◌, ◌==◌, Option, Some, None, List, [], refl, ap, sym, subst, ◌∙◌}
use Rattle.std.specs.Prelude.{bytes_eq}
use Rattle.std.proofs.lemmas.Bool.Decides.{Decides-eqb}
use Rattle.std.proofs.lemmas.Slice.Eq.{bytes_eq-Decides}
use Rattle.hs_types.specs.Names.{Names}
use Rattle.hs_types.specs.declared.ids.InodeId.{InodeId}
use Rattle.hs_types.specs.declared.name.Spot.{Spot}
use Rattle.hs_types.specs.declared.reply.Line.{Line}
use Rattle.hs_types.specs.declared.reply.LineKind.TheVariants.{Deleted, Renamed, Modified, Created}
use Rattle.hs_plain.specs.declared.state.Node.{Node}
use Rattle.hs_plain.specs.declared.state.State.{State}
use Rattle.hs_plain.specs.declared.state.FileBlocks.{FileBlocks}
use Rattle.hs_plain.specs.Report.{line_if}
use Rattle.hs_plain.specs.Tree.{same_inode, is_dir}
use Rattle.hs_plain.proofs.ValidLists.{In, by_append, flat_map_so, filter_map_so, not_so, neither_first, neither_second}
use Rattle.hs_plain.proofs.ValidMembers.{inode_test}
use Rattle.hs_plain.proofs.ValidTrees.{both, second}
use Rattle.hs_plain.proofs.ValidShapes.{by_last, none_some, same_some, true_false}
use Rattle.dir_changes.specs.Entries.{Entry, id_at, holds}
use Rattle.dir_changes.specs.History.{DirHistory, children_at}
use Rattle.dir_changes.proofs.OrderLaws.{in_order-children_at}
use Rattle.snapshot_manager.specs.Snapshots.{Snapshots}
use Rattle.inode_table.specs.Reads.{Nodes, ReadsAs, IsNodes, Has, child, id_of}
use Rattle.inode_table.specs.RowHistory.{RowHistory, File, Dir, rows_at, shown, spot_in}
use Rattle.inode_table.specs.Tabled.{Tabled}
use Rattle.inode_table.specs.Whole.{StandsFor}
use Rattle.inode_table.proofs.Covers.{some_id}
use Rattle.path_resolver.specs.ByRows.{is_dir_row}
use Rattle.path_resolver.specs.Rising.{way_down}
use Rattle.change_report.specs.declared.ends.Ends.{Ends}
use Rattle.change_report.specs.Found.{gone_side, new_side, row_line, stamp_in, same_spot, has_stayed, own_lines, stands_at, is_alone, entry_line, side_lines, list_lines, paths_of, lines_at, lines_by, row_lines, all_lines}
use Rattle.change_report.specs.LineKinds.{Below, IsLine}
use Rattle.change_report.proofs.AtEnd.{leads, absent, is-dir, stamp-is, spot-is, kids-are}
use Rattle.change_report.proofs.Entries.{in-found}
use Rattle.change_report.proofs.PlainLines.{in-line_if}

given-so : (b : Bool) (x line : Line) → cond b (Some x) None ≡ Some line → (b ≡ true) × (x ≡ line)
given-so true x line h = (refl, same_some h)
given-so false x line h = absurd (none_some h)

module _ (t : Tabled) (snaps : Snapshots) (state : State FileBlocks) (all : StandsFor t snaps state) (ends : Ends) (f g : Nodes FileBlocks)
    (f_is : IsNodes f) (g_is : IsNodes g) (f_reads : ReadsAs (shown t.rows ends.from.0) ends.root f) (g_reads : ReadsAs (shown t.rows ends.to.0) ends.root g) where
  -- the root's id
  at-root : (h : Nodes FileBlocks) → id_of (h []) ≡ Some ends.root → (n : Node FileBlocks) → h [] ≡ Some n → n.id ≡ ends.root
  at-root h is n at = same_some (sym (ap id_of at) ∙ is)

  listed : (s : ℕ) (id : InodeId) (dir : DirHistory) → rows_at t.rows id ≡ Some (Dir dir) → (e : Entry) → In (children_at s dir) e → id_at e.0 (children_at s dir) ≡ Some e.1
  listed s id dir there e at = in-found (children_at s dir) (in_order-children_at dir (all.records.undoable id dir there) s) e at

  -- an inode that stands at both ends
  module _ (old new : Names) (a b : Node FileBlocks) (stood : f old ≡ Some a) (stands : g new ≡ Some b) (same : b.id ≡ a.id) where
    there-too : (rows : RowHistory) → rows_at t.rows a.id ≡ Some rows → rows_at t.rows b.id ≡ Some rows
    there-too rows there = ap (rows_at t.rows) same ∙ there

    in-second : Has g a.id
    in-second = record { at = new; node = b; is = stands; named = same }

    module _ (rows : RowHistory) (there : rows_at t.rows a.id ≡ Some rows) where
      dir-is : is_dir_row (Some rows) ≡ is_dir a
      dir-is = ap is_dir_row (sym there) ∙ is-dir t snaps state all ends.root ends.from f f_is f_reads old a stood

      same-spots : (old_at new_at : Names) (old_name new_name : List ℕ) (c d : Node FileBlocks) → Below f old_at old_name c a → Below g new_at new_name d b
          → same_spot (spot_in ends.from.0 rows) (spot_in ends.to.0 rows) ≡ (same_inode c.id d.id && bytes_eq old_name new_name)
      same-spots old_at new_at old_name new_name c d above over =
          ap (λ (s : Spot). same_spot s (spot_in ends.to.0 rows)) (spot-is t snaps state all ends.root ends.from f f_is f_reads old_at old_name c a rows above there)
          ∙ ap (same_spot (record { parent = c.id; name = old_name })) (spot-is t snaps state all ends.root ends.to g g_is g_reads new_at new_name d b rows over (there-too rows there))

      moved-so : (line : Line) → has_stayed ends a.id rows ≡ false → row_line Renamed old (Some new) a.id (is_dir_row (Some rows)) ≡ line → IsLine f g line
      moved-so line moved so = by_last (λ p. old ≡ p → IsLine f g line) old
          (λ e. absurd (not-root (at-root f f_reads.root a (sym (ap f e) ∙ stood))))
          (λ old_at old_name e. by_last (λ p. new ≡ p → IsLine f g line) new
          (λ d. absurd (not-root (sym same ∙ at-root g g_reads.root b (sym (ap g d) ∙ stands))))
          (λ new_at new_name d.
          let here : f (child old_at old_name) ≡ Some a = sym (ap f e) ∙ stood in
          let over : g (child new_at new_name) ≡ Some b = sym (ap g d) ∙ stands in
          let c = f_is.above old_at a old_name here in
          let k = g_is.above new_at b new_name over in
          let below : Below f old_at old_name c.0 a = record { above = c.1; here = here } in
          let below_too : Below g new_at new_name k.0 b = record { above = k.1; here = over } in
          inr (inl (record {
            old_at = old_at;
            new_at = new_at;
            old_name = old_name;
            new_name = new_name;
            old_dir = c.0;
            new_dir = k.0;
            old = a;
            new = b;
            stood = below;
            stands = below_too;
            same = sym same;
            other = λ dirs names. true_false
                (same-spots old_at new_at old_name new_name c.0 k.0 below below_too
                ∙ both {a = same_inode c.0.id k.0.id} {b = bytes_eq old_name new_name} (inode_test c.0.id k.0.id (ap (λ (i : InodeId). i.0) dirs)) ((bytes_eq-Decides old_name new_name).1 names))
                (neither_second (same_inode a.id ends.root) _ moved);
            so = sym so ∙ (λ i. row_line Renamed (e i) (Some (d i)) a.id (dir-is i));
          }))) refl) refl
        where
          not-root : a.id ≡ ends.root → ⊥
          not-root e = true_false (inode_test a.id ends.root (ap (λ (i : InodeId). i.0) e)) (neither_first (same_inode a.id ends.root) _ moved)

      stamps-are : (stamp_in ends.from.0 rows == stamp_in ends.to.0 rows) ≡ (a.stamp == b.stamp)
      stamps-are = (λ i. stamp-is t snaps state all ends.root ends.from f f_is f_reads old a rows stood there i == stamp-is t snaps state all ends.root ends.to g g_is g_reads new b rows stands (there-too rows there) i)

      stamped-so : (line : Line) → not (stamp_in ends.from.0 rows == stamp_in ends.to.0 rows) ≡ true → row_line Modified old None a.id (is_dir_row (Some rows)) ≡ line → IsLine f g line
      stamped-so line changed so = inr (inr (inl (record {
        old_at = old;
        new_at = new;
        old = a;
        new = b;
        stood = stood;
        stands = stands;
        same = sym same;
        other = λ e. true_false ((Decides-eqb a.stamp b.stamp).1 e) (sym stamps-are ∙ not_so _ changed);
        so = sym so ∙ ap (row_line Modified old None a.id) dir-is;
      })))

      own-so : (line : Line) → In (own_lines ends a.id rows old new) line → IsLine f g line
      own-so line at = by (in-line_if (not (has_stayed ends a.id rows)) (row_line Renamed old (Some new) a.id (is_dir_row (Some rows))) _ line at)
        where
          by_second : ((not (stamp_in ends.from.0 rows == stamp_in ends.to.0 rows) ≡ true) × (row_line Modified old None a.id (is_dir_row (Some rows)) ≡ line)) ⊎ In [] line → IsLine f g line
          by_second (inl so) = stamped-so line so.0 so.1
          by_second (inr none) = absurd none

          by : ((not (has_stayed ends a.id rows) ≡ true) × (row_line Renamed old (Some new) a.id (is_dir_row (Some rows)) ≡ line))
              ⊎ In (line_if (not (stamp_in ends.from.0 rows == stamp_in ends.to.0 rows)) (row_line Modified old None a.id (is_dir_row (Some rows))) []) line → IsLine f g line
          by (inl so) = moved-so line (not_so _ so.0) so.1
          by (inr at) = by_second (in-line_if (not (stamp_in ends.from.0 rows == stamp_in ends.to.0 rows)) (row_line Modified old None a.id (is_dir_row (Some rows))) [] line at)

    module _ (dir : DirHistory) (there : rows_at t.rows a.id ≡ Some (Dir dir)) where
      gone-so : (line : Line) → In (side_lines t (gone_side ends) old dir) line → IsLine f g line
      gone-so line at =
          let one = filter_map_so (entry_line t (gone_side ends) old dir) (children_at ends.from.0 dir) line at in
          let e : Entry = one.0 in
          let is = given-so (is_alone t (gone_side ends) dir e) _ line one.2 in
          let n = some_id (f (child old e.0)) e.1 (sym (kids-are t snaps state all ends.root ends.from f f_is f_reads old a dir e.0 stood there) ∙ listed ends.from.0 a.id dir there e one.1) in
          let none : stands_at t ends.root ends.to e.1 ≡ false = not_so _ (second (not (holds (children_at ends.to.0 dir) e)) _ is.0) in
          inl (record {
            at = old;
            name = e.0;
            dir = a;
            node = n.0;
            stood = record { above = stood; here = n.1 };
            absent = λ h. absent t snaps state all ends.root ends.to g g_is g_reads e.1 none (subst (Has g) n.2 h);
            stays = in-second;
            so = sym is.1 ∙ ap (λ (i : InodeId). row_line Deleted (child old e.0) None i (is_dir_row (rows_at t.rows i))) (sym n.2)
                ∙ ap (row_line Deleted (child old e.0) None n.0.id) (is-dir t snaps state all ends.root ends.from f f_is f_reads (child old e.0) n.0 n.1);
          })

      new-so : (line : Line) → In (side_lines t (new_side ends) old dir) line → IsLine f g line
      new-so line at =
          let one = filter_map_so (entry_line t (new_side ends) old dir) (children_at ends.to.0 dir) line at in
          let e : Entry = one.0 in
          let is = given-so (is_alone t (new_side ends) dir e) _ line one.2 in
          let n = some_id (g (child new e.0)) e.1 (sym (kids-are t snaps state all ends.root ends.to g g_is g_reads new b dir e.0 stands (there-too (Dir dir) there)) ∙ listed ends.to.0 a.id dir there e one.1) in
          let none : stands_at t ends.root ends.from e.1 ≡ false = not_so _ (second (not (holds (children_at ends.from.0 dir) e)) _ is.0) in
          inr (inr (inr (record {
            at = new;
            name = e.0;
            dir = b;
            node = n.0;
            stands = record { above = stands; here = n.1 };
            absent = λ h. absent t snaps state all ends.root ends.from f f_is f_reads e.1 none (subst (Has f) n.2 h);
            dir_at = old;
            old_dir = a;
            was = stood;
            same = sym same;
            so = sym is.1 ∙ ap (λ (i : InodeId). row_line Created (child old e.0) None i (is_dir_row (rows_at t.rows i))) (sym n.2)
                ∙ ap (row_line Created (child old e.0) None n.0.id) (is-dir t snaps state all ends.root ends.to g g_is g_reads (child new e.0) n.0 n.1);
          })))

    lists-so : (rows : RowHistory) → rows_at t.rows a.id ≡ Some rows → (line : Line) → In (list_lines t ends old rows) line → IsLine f g line
    lists-so (File file) there line at = absurd at
    lists-so (Dir dir) there line at = by_append (side_lines t (gone_side ends) old dir) (side_lines t (new_side ends) old dir) line at (gone-so dir there line) (new-so dir there line)

  -- ---- what is found is so

  rows-so : (id : InodeId) (rows : RowHistory) → rows_at t.rows id ≡ Some rows → (w x : Option Names) → way_down t ends.from.0 ends.root id ≡ w → way_down t ends.to.0 ends.root id ≡ x
      → (line : Line) → In (lines_at t ends id rows (paths_of w x)) line → IsLine f g line
  rows-so id rows there None x d e line at = absurd at
  rows-so id rows there (Some old) None d e line at = absurd at
  rows-so id rows there (Some old) (Some new) d e line at =
      let a = leads t snaps state all ends.root ends.from f f_is f_reads id old d in
      let b = leads t snaps state all ends.root ends.to g g_is g_reads id new e in
      let same : b.0.id ≡ a.0.id = b.2 ∙ sym a.2 in
      let here : rows_at t.rows a.0.id ≡ Some rows = ap (rows_at t.rows) a.2 ∙ there in
      by_append (own_lines ends id rows old new) (list_lines t ends old rows) line at
      (λ own. own-so old new a.0 b.0 a.1 b.1 same rows here line (subst (λ (i : InodeId). In (own_lines ends i rows old new) line) (sym a.2) own))
      (lists-so old new a.0 b.0 a.1 b.1 same rows here line)

  row-so : (id : InodeId) (o : Option RowHistory) → rows_at t.rows id ≡ o → (line : Line) → In (lines_by t ends id o) line → IsLine f g line
  row-so id None there line at = absurd at
  row-so id (Some rows) there line at = rows-so id rows there (way_down t ends.from.0 ends.root id) (way_down t ends.to.0 ends.root id) refl refl line at

  pub found-so : (ids : List InodeId) (line : Line) → In (all_lines t ends ids) line → IsLine f g line
  found-so ids line at = let one = flat_map_so (row_lines t ends) ids line at in row-so one.0 (rows_at t.rows one.0) refl line one.2
