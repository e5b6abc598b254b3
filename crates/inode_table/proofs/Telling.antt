-- What a table and snapshots in memory tell of the plain ones.
use Rattle.std.proofs.Common.{◌≡◌, true, false, max, ◌⊎◌, inl, inr, nat_eq, List, [], ◌∷◌, map, Option, Some, None, refl, ap, ◌∙◌}
use Rattle.std.specs.Option.{option_map}
use Rattle.std.specs.Cmp.{nat_eq_equiv}
use Rattle.std.specs.Ordering.{eq_by_cmp}
use Rattle.std.proofs.lemmas.Bool.{cases_Bool}
use Rattle.hs_types.specs.declared.ids.InodeId.{InodeId}
use Rattle.hs_types.specs.declared.name.SnapItem.{SnapItem}
use Rattle.hs_plain.specs.declared.state.Member.{Member}
use Rattle.hs_plain.specs.declared.state.FileBlocks.{FileBlocks}
use Rattle.snapshot_manager.specs.Snapshots.{Snapshots, greatest, last_id}
use Rattle.snapshot_manager.specs.Members.{of_dir}
use Rattle.inode_table.specs.declared.row.Row.{Row}
use Rattle.inode_table.specs.Marks.{last_of}
use Rattle.inode_table.specs.RowHistory.{id_order, row_at, marks_of, mark_of}
use Rattle.inode_table.specs.Numbered.{row_of, state_of, table_of, mark_of_row, marks_in, number_or, last_live}
use Rattle.inode_table.specs.Joined.{told, AreTold}

pub row-told : (rows : List (InodeId × Row)) (id : InodeId) → row_at (table_of rows) id ≡ option_map state_of (row_of rows id)
row-told [] id = refl
row-told (e ∷ es) id = by (row-told es id) (cases_Bool (eq_by_cmp id_order id e.0))
  where
    by : row_at (table_of es) id ≡ option_map state_of (row_of es id) → (eq_by_cmp id_order id e.0 ≡ true) ⊎ (eq_by_cmp id_order id e.0 ≡ false) → row_at (table_of (e ∷ es)) id ≡ option_map state_of (row_of (e ∷ es) id)
    by rest (inl here) = rw here refl
    by rest (inr there) = rw there rest

pub marks-told : (rows : List (InodeId × Row)) (id : InodeId) → marks_of (table_of rows) id ≡ marks_in rows id
marks-told rows id = ap mark_of (row-told rows id) ∙ by (row_of rows id)
  where
    by : (o : Option Row) → mark_of (option_map state_of o) ≡ mark_of_row o
    by None = refl
    by (Some row) = refl

number_of_last : (items : List SnapItem) → number_or (last_id items) ≡ greatest items
number_of_last [] = refl
number_of_last (item ∷ items) = refl

greatest_of : (members : List (Member FileBlocks)) (dir : InodeId) → greatest (of_dir dir (map told members)) ≡ last_of members dir
greatest_of [] dir = refl
greatest_of (m ∷ ms) dir = by (greatest_of ms dir) (cases_Bool (nat_eq dir.0 m.directory.0))
  where
    by : greatest (of_dir dir (map told ms)) ≡ last_of ms dir → (nat_eq dir.0 m.directory.0 ≡ true) ⊎ (nat_eq dir.0 m.directory.0 ≡ false) → greatest (of_dir dir (map told (m ∷ ms))) ≡ last_of (m ∷ ms) dir
    by rest (inl own) = let same : nat_eq m.directory.0 dir.0 ≡ true = nat_eq_equiv.symm m.directory.0 dir.0 ∙ own in rw (own, same) (ap (λ n. max m.snapshot.0 n) rest)
    by rest (inr other) = let apart : nat_eq m.directory.0 dir.0 ≡ false = nat_eq_equiv.symm m.directory.0 dir.0 ∙ other in rw (other, apart) rest

pub last-told : (members : List (Member FileBlocks)) (snaps : Snapshots) (dir : InodeId) → AreTold members snaps → last_live snaps dir ≡ last_of members dir
last-told members snaps dir t = ap (λ items. number_or (last_id items)) (t.tables dir) ∙ number_of_last (of_dir dir (map told members)) ∙ greatest_of members dir
