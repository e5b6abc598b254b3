-- What rows say of one end of a report.
use Rattle.std.proofs.Common.{◌≡◌, ℕ, false, List, Option, Some, None, refl, sym, ap, ◌∙◌}
use Rattle.std.specs.Prelude.{is_some}
use Rattle.std.specs.Option.{option_map}
use Rattle.hs_types.specs.Names.{Names}
use Rattle.hs_types.specs.declared.ids.InodeId.{InodeId}
use Rattle.hs_types.specs.declared.ids.SnapId.{SnapId}
use Rattle.hs_plain.specs.declared.state.Node.{Node}
use Rattle.hs_plain.specs.declared.state.State.{State}
use Rattle.hs_plain.specs.declared.state.FileBlocks.{FileBlocks}
use Rattle.hs_plain.specs.Tree.{is_dir}
use Rattle.hs_plain.proofs.ValidShapes.{none_some, same_some, true_false}
use Rattle.dir_changes.specs.Entries.{id_at}
use Rattle.dir_changes.specs.History.{DirHistory, children_at}
use Rattle.snapshot_manager.specs.Snapshots.{Snapshots}
use Rattle.inode_table.specs.Reads.{Nodes, ReadsAs, IsNodes, Has, child, id_of}
use Rattle.inode_table.specs.RowHistory.{RowHistory, File, Dir, rows_at, shown, node_in, spot_in, entries_of}
use Rattle.inode_table.specs.Tabled.{Tabled}
use Rattle.inode_table.specs.Whole.{StandsFor}
use Rattle.inode_table.proofs.Covers.{some_id}
use Rattle.path_resolver.specs.ByRows.{is_dir_row}
use Rattle.path_resolver.specs.Rising.{way_down}
use Rattle.path_resolver.proofs.Climbs.{way-leads, way-finds}
use Rattle.change_report.specs.Found.{stands_at, stamp_in}
use Rattle.change_report.specs.LineKinds.{Below}

dir-in : (id : InodeId) (s : ℕ) (rows : RowHistory) → is_dir_row (Some rows) ≡ is_dir (node_in id s rows)
dir-in id s (File file) = refl
dir-in id s (Dir dir) = refl

stamped-in : (id : InodeId) (s : ℕ) (rows : RowHistory) → stamp_in s rows ≡ (node_in id s rows).stamp
stamped-in id s (File file) = refl
stamped-in id s (Dir dir) = refl

-- the row of a node, which reads as the node
pub record HasRow (t : Tabled) (s : ℕ) (n : Node FileBlocks) : Type 0 where
  pub rows : RowHistory
  pub there : rows_at t.rows n.id ≡ Some rows
  pub reads : node_in n.id s rows ≡ n

module _ (t : Tabled) (snaps : Snapshots) (state : State FileBlocks) (all : StandsFor t snaps state) (root : InodeId) (end : SnapId) (f : Nodes FileBlocks)
    (is : IsNodes f) (reads : ReadsAs (shown t.rows end.0) root f) where
  pub leads : (id : InodeId) (path : Names) → way_down t end.0 root id ≡ Some path → (n : Node FileBlocks) × (f path ≡ Some n) × (n.id ≡ id)
  leads id path e = some_id (f path) id (way-leads t snaps state all end.0 root f is reads id path e)

  pub finds : (path : Names) (n : Node FileBlocks) → f path ≡ Some n → way_down t end.0 root n.id ≡ Some path
  finds path n at = way-finds t snaps state all end.0 root f is reads path n at

  pub absent : (id : InodeId) → stands_at t root end id ≡ false → Has f id → ⊥
  absent id none h = true_false (ap (λ (i : InodeId). is_some (way_down t end.0 root i)) (sym h.named) ∙ ap is_some (finds h.at h.node h.is)) none

  pub missing : (id : InodeId) → (Has f id → ⊥) → stands_at t root end id ≡ false
  missing id none = by (way_down t end.0 root id) refl
    where
      by : (o : Option Names) → way_down t end.0 root id ≡ o → is_some (way_down t end.0 root id) ≡ false
      by None e = ap is_some e
      by (Some path) e = let n = leads id path e in absurd (none (record { at = path; node = n.0; is = n.1; named = n.2 }))

  pub has-row : (path : Names) (n : Node FileBlocks) → f path ≡ Some n → HasRow t end.0 n
  has-row path n at = by (rows_at t.rows n.id) refl (reads.node path n at)
    where
      by : (o : Option RowHistory) → rows_at t.rows n.id ≡ o → option_map (node_in n.id end.0) o ≡ Some n → HasRow t end.0 n
      by None e h = absurd (none_some h)
      by (Some rows) e h = record { rows = rows; there = e; reads = same_some h }

  pub is-dir : (path : Names) (n : Node FileBlocks) → f path ≡ Some n → is_dir_row (rows_at t.rows n.id) ≡ is_dir n
  is-dir path n at = let r = has-row path n at in ap is_dir_row r.there ∙ dir-in n.id end.0 r.rows ∙ ap is_dir r.reads

  pub stamp-is : (path : Names) (n : Node FileBlocks) (rows : RowHistory) → f path ≡ Some n → rows_at t.rows n.id ≡ Some rows → stamp_in end.0 rows ≡ n.stamp
  stamp-is path n rows at there = stamped-in n.id end.0 rows ∙ ap (λ (m : Node FileBlocks). m.stamp) (same_some (sym (ap (option_map (node_in n.id end.0)) there) ∙ reads.node path n at))

  pub spot-is : (at : Names) (name : List ℕ) (dir n : Node FileBlocks) (rows : RowHistory) → Below f at name dir n → rows_at t.rows n.id ≡ Some rows → spot_in end.0 rows ≡ record { parent = dir.id; name = name }
  spot-is at name dir n rows below there = same_some (sym (ap (option_map (spot_in end.0)) there) ∙ reads.spot at dir n name below.above below.here)

  pub kids-are : (path : Names) (n : Node FileBlocks) (dir : DirHistory) (name : List ℕ) → f path ≡ Some n → rows_at t.rows n.id ≡ Some (Dir dir) → id_at name (children_at end.0 dir) ≡ id_of (f (child path name))
  kids-are path n dir name at there = sym (ap (λ o. id_at name (entries_of end.0 o)) there) ∙ reads.entries path n name at
