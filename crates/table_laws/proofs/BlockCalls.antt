-- Blocks through the steps of one call.
use Rattle.std.proofs.Common.{◌≡◌, ℕ, ◌+◌, List, [], ◌∷◌, ◌++◌, length, Option, Some, None, sym, ap, subst, ◌∙◌, append-nil}
use Rattle.hs_types.specs.Blocks.{BlockMap}
use Rattle.hs_types.specs.declared.ids.BlockId.{BlockId}
use Rattle.hs_types.specs.declared.ids.InodeId.{InodeId}
use Rattle.file_changes.specs.History.{FileHistory}
use Rattle.inode_table.specs.declared.change.Change.{Change}
use Rattle.inode_table.specs.declared.change.Change.TheVariants as changes
use Rattle.inode_table.specs.declared.freed.Freed.{Freed}
use Rattle.inode_table.specs.RowHistory.{RowHistory, File, row_at, rows_at}
use Rattle.inode_table.specs.Blocked.{AreBlocks}
use Rattle.inode_table.specs.Tabled.{Tabled, changed, inserted}
use Rattle.inode_table.specs.Merged.{merged}
use Rattle.inode_table.specs.Released.{Releasing}
use Rattle.table_laws.specs.Blocking.{IsBodiless, IsEmptyRows, Appends}
use Rattle.table_laws.specs.NameCalls.{row_made, Moving, entry_moved, MergedBy}
use Rattle.table_laws.specs.BlockCalls.{HasBlocks}
use Rattle.table_laws.proofs.NamedSteps.{still-none}
use Rattle.table_laws.proofs.BlockSteps.{quiet-blocks, insert-blocks, mark-blocks}
use Rattle.table_laws.proofs.BlockBodies.{append-blocks}
use Rattle.table_laws.proofs.BlockGoing.{merge-blocks, release-blocks}

module _ (store : Option BlockMap) (made : ℕ) (waiting : List BlockId) where
  made_blocks : (t : Tabled) (id : InodeId) (rows : RowHistory) (since : ℕ) (dir : InodeId) (cover tick : ℕ) (name : List ℕ) → row_at t.rows id ≡ None → IsEmptyRows rows
      → AreBlocks t.rows store made waiting → AreBlocks (row_made id rows since dir cover tick name t).rows store made waiting
  made_blocks t id rows since dir cover tick name free empty are =
      quiet-blocks (inserted id rows since t) dir cover tick (changes.Add name id) store made waiting tt (insert-blocks t id rows since store made waiting free empty are)

  removed_blocks : (t : Tabled) (dir : InodeId) (cover tick : ℕ) (name : List ℕ) → AreBlocks t.rows store made waiting → AreBlocks (changed dir cover tick (changes.Remove name) t).rows store made waiting
  removed_blocks t dir cover tick name are = quiet-blocks t dir cover tick (changes.Remove name) store made waiting tt are

  -- where the table kept no block
  release : (t after : Tabled) (freed : Freed) → t.waiting ≡ [] → Releasing t freed after → AreBlocks t.rows store made waiting → HasBlocks after store made (waiting ++ freed.blocks)
  release t after freed none step are = record {
    handed_out = step.waiting;
    blocks = release-blocks t after freed store made waiting step (subst (AreBlocks t.rows store made) (sym (ap (λ (bs : List BlockId). waiting ++ bs) none ∙ append-nil waiting)) are);
  }

  pub touch-blocks : (t : Tabled) (id : InodeId) (cover tick : ℕ) (what : Change) → IsBodiless what → HasBlocks t store made waiting → HasBlocks (changed id cover tick what t) store made waiting
  touch-blocks t id cover tick what quiet has = record { handed_out = has.handed_out; blocks = quiet-blocks t id cover tick what store made waiting quiet has.blocks }

  pub make-blocks : (t : Tabled) (id : InodeId) (rows : RowHistory) (since : ℕ) (dir : InodeId) (cover tick : ℕ) (name : List ℕ) → row_at t.rows id ≡ None → IsEmptyRows rows
      → HasBlocks t store made waiting → HasBlocks (row_made id rows since dir cover tick name t) store made waiting
  make-blocks t id rows since dir cover tick name free empty has = record { handed_out = has.handed_out; blocks = made_blocks t id rows since dir cover tick name free empty has.blocks }

  pub rename-blocks : (t : Tabled) (m : Moving) → HasBlocks t store made waiting → HasBlocks (entry_moved m t) store made waiting
  rename-blocks t m has =
      let less = removed_blocks t m.from m.from_cover m.tick m.old_name has.blocks in
      let more = quiet-blocks (changed m.from m.from_cover m.tick (changes.Remove m.old_name) t) m.to m.to_cover m.tick (changes.Add m.new_name m.row) store made waiting tt less in
      let moved = quiet-blocks (changed m.to m.to_cover m.tick (changes.Add m.new_name m.row) (changed m.from m.from_cover m.tick (changes.Remove m.old_name) t)) m.row m.row_cover m.tick (changes.Move m.spot) store made waiting tt more in
      record {
        handed_out = has.handed_out;
        blocks = mark-blocks (changed m.row m.row_cover m.tick (changes.Move m.spot) (changed m.to m.to_cover m.tick (changes.Add m.new_name m.row) (changed m.from m.from_cover m.tick (changes.Remove m.old_name) t))) m.row m.since m.carry store made waiting moved;
      }

  pub delete-blocks : (t after : Tabled) (freed : Freed) (dir : InodeId) (cover tick : ℕ) (name : List ℕ)
      → Releasing (changed dir cover tick (changes.Remove name) t) freed after → HasBlocks t store made waiting → HasBlocks after store made (waiting ++ freed.blocks)
  delete-blocks t after freed dir cover tick name step has = release (changed dir cover tick (changes.Remove name) t) after freed has.handed_out step (removed_blocks t dir cover tick name has.blocks)

  pub replace-blocks : (t after : Tabled) (freed : Freed) (id : InodeId) (rows : RowHistory) (since : ℕ) (dir : InodeId) (remove_cover add_cover tick : ℕ) (name : List ℕ)
      → row_at t.rows id ≡ None → IsEmptyRows rows → Releasing (row_made id rows since dir add_cover tick name (changed dir remove_cover tick (changes.Remove name) t)) freed after
      → HasBlocks t store made waiting → HasBlocks after store made (waiting ++ freed.blocks)
  replace-blocks t after freed id rows since dir remove_cover add_cover tick name free empty step has =
      release (row_made id rows since dir add_cover tick name (changed dir remove_cover tick (changes.Remove name) t)) after freed has.handed_out step
      (made_blocks (changed dir remove_cover tick (changes.Remove name) t) id rows since dir add_cover tick name (still-none t dir remove_cover tick (changes.Remove name) id free) empty
      (removed_blocks t dir remove_cover tick name has.blocks))

  merged_blocks : (t middle : Tabled) (records : List (InodeId × ℕ)) → MergedBy t records middle → AreBlocks t.rows store made (waiting ++ t.waiting) → AreBlocks middle.rows store made (waiting ++ middle.waiting)
  merged_blocks t middle [] same are = subst (λ (s : Tabled). AreBlocks s.rows store made (waiting ++ s.waiting)) (sym same) are
  merged_blocks t middle (one ∷ more) step are = merged_blocks (merged one.0 one.1 t) middle more step.3 (merge-blocks t one.0 one.1 store made waiting are)

  pub drop-blocks : (t middle after : Tabled) (records : List (InodeId × ℕ)) (freed : Freed) → MergedBy t records middle → Releasing middle freed after → HasBlocks t store made waiting → HasBlocks after store made (waiting ++ freed.blocks)
  drop-blocks t middle after records freed merges step has = record {
    handed_out = step.waiting;
    blocks = release-blocks middle after freed store made waiting step
        (merged_blocks t middle records merges (subst (AreBlocks t.rows store made) (sym (ap (λ (bs : List BlockId). waiting ++ bs) has.handed_out ∙ append-nil waiting)) has.blocks));
  }

pub appended-blocks : (store now : Option BlockMap) (low high : ℕ) (waiting : List BlockId) (t : Tabled) (id : InodeId) (cover tick : ℕ) (file : FileHistory) (bytes : List ℕ) (blocks : List BlockId) → rows_at t.rows id ≡ Some (File file)
    → Appends file bytes blocks store now low high → HasBlocks t store low waiting → HasBlocks (changed id cover tick (changes.Body (file.current.size + length bytes) blocks) t) now high waiting
appended-blocks store now low high waiting t id cover tick file bytes blocks was append has =
    record { handed_out = has.handed_out; blocks = append-blocks t id cover tick file bytes blocks store now low high waiting was append has.blocks }
