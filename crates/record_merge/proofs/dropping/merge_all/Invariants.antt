use Rattle.std.proofs.Common.{ℕ, ◌<◌, List, drop}
use Rattle.std.specs.List.{Contains}
use Rattle.hs_types.specs.declared.ids.InodeId.{InodeId}
use Rattle.hs_plain.specs.declared.state.Member.{Member}
use Rattle.hs_plain.specs.declared.state.FileBlocks.{FileBlocks}
use Rattle.inode_table.specs.Joined.{AreTold}
use Rattle.inode_table.specs.Kept.{told}
use Rattle.inode_table.specs.Merged.{IsRowMergeable}
use Rattle.inode_table.specs.Numbered.{row_of}
use Rattle.table_laws.specs.RecordDropping.{AreLeft}
use Rattle.record_merge.specs.Dropping.{AreRising}
use Rattle.record_merge.proofs.Merging.{StillLooks}
use Rattle.record_merge.proofs.dropping.merge_all.Given as goal

abbrev pub invariant-loop-id : goal.invariant-loop-id
invariant-loop-id l = record {
  rising : AreRising (drop l.id-index l.ids);
  prepared : (id : InodeId) → Contains (drop l.id-index l.ids) id → IsRowMergeable (row_of l.table.rows id);
  room : 0 < l.table.room.blocks;
  looked : (fewer : List (Member FileBlocks)) (issued : ℕ) → AreTold fewer l.snaps → AreLeft (told l.initial.table) fewer issued l.ids → StillLooks fewer issued l.ids (told l.initial.table) (drop l.id-index l.ids) (told l.table);
}
