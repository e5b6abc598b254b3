-- What rows are as the trees that they are read as.
use Rattle.std.proofs.Common.{◌≡◌, ℕ, true, List, map, Some, refl, sym, ap, ◌∙◌}
use Rattle.std.specs.List.{Contains}
use Rattle.std.specs.Option.{option_map}
use Rattle.std.specs.FinMap.Entries.{is_sorted}
use Rattle.hs_types.specs.declared.ids.InodeId.{InodeId}
use Rattle.hs_plain.specs.declared.state.Member.{Member}
use Rattle.hs_plain.specs.declared.state.State.{State}
use Rattle.hs_plain.specs.declared.state.FileBlocks.{FileBlocks}
use Rattle.hs_plain.specs.Tree.{Tree, path_cmp, node_at, listing, place_of}
use Rattle.hs_plain.proofs.Trees.{place_there}
use Rattle.dir_changes.specs.Entries.{in_order}
use Rattle.dir_changes.specs.History.{DirHistory, children_at}
use Rattle.dir_changes.specs.Sound.{IsSound}
use Rattle.dir_changes.proofs.OrderLaws.{in_order-children_at}
use Rattle.snapshot_manager.specs.Snapshots.{Snapshots}
use Rattle.inode_table.specs.Listed.{entry_of}
use Rattle.inode_table.specs.Reads.{ReadsAs, IsNodes, Has}
use Rattle.inode_table.specs.RowHistory.{Table, Dir, rows_at, shown, node_in}
use Rattle.inode_table.specs.Tabled.{Tabled}
use Rattle.inode_table.specs.Whole.{StandsFor}
use Rattle.inode_table.proofs.Giving.{from-valid, all_at}
use Rattle.inode_table.proofs.Listing.{reads-listed}

-- each directory's row is sound
abbrev pub AreSound : Table → Type 0
AreSound table = (id : InodeId) (dir : DirHistory) → rows_at table id ≡ Some (Dir dir) → IsSound dir

-- ---- one tree

module _ (table : Table) (s : ℕ) (sound : AreSound table) (top : InodeId) (tree : Tree FileBlocks) (sorted : is_sorted path_cmp tree ≡ true) (is : IsNodes (node_at tree)) (reads : ReadsAs (shown table s) top (node_at tree)) where
  pub place_has : (id : InodeId) (has : Has (node_at tree) id) → place_of tree id ≡ Some (has.at, has.node)
  place_has id has = place_there tree sorted (λ p q a b at bt same. is.once p q a b at bt (λ i. record { 0 = same i })) id has.at has.node has.is (ap (λ (i : InodeId). i.0) has.named)

  -- the row of a node shows it
  pub row_shows : (id : InodeId) (has : Has (node_at tree) id) → option_map (node_in id s) (rows_at table id) ≡ Some has.node
  row_shows id has = ap (λ (i : InodeId). option_map (node_in i s) (rows_at table i)) (sym has.named) ∙ reads.node has.at has.node has.is

  -- a directory's entries are its items
  pub entries_listed : (id : InodeId) (dir : DirHistory) (has : Has (node_at tree) id) → rows_at table id ≡ Some (Dir dir) → children_at s dir ≡ map entry_of (listing tree has.at)
  entries_listed id dir has e =
      let at : rows_at table has.node.id ≡ Some (Dir dir) = ap (rows_at table) has.named ∙ e in
      let entries : (shown table s).entries has.node.id ≡ children_at s dir = rw at refl in
      sym entries
      ∙ reads-listed (shown table s) top tree has.at has.node sorted reads has.is (ap (λ (es : List (List ℕ × InodeId)). in_order es) entries ∙ in_order-children_at dir (sound id dir e) s)

-- ---- the whole

module _ (table : Tabled) (snaps : Snapshots) (state : State FileBlocks) (all : StandsFor table snaps state) where
  pub are_sound : AreSound table.rows
  are_sound = all.records.undoable

  pub live_is : IsNodes (node_at state.tree)
  live_is = (from-valid state all.valid).live

  pub copy_is : (m : Member FileBlocks) → Contains state.members m → IsNodes (node_at m.tree)
  copy_is = (from-valid state all.valid).copies

  pub copy_sorted : (m : Member FileBlocks) → Contains state.members m → is_sorted path_cmp m.tree ≡ true
  copy_sorted m within = all_at (λ (o : Member FileBlocks). is_sorted path_cmp o.tree) state.members m all.valid.copies_sorted within
