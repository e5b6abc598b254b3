use Rattle.std.proofs.Common.{ap, arith}
use Rattle.file_changes.specs.History.{FileHistory}
use Rattle.dir_changes.specs.Counts.{times}
use Rattle.inode_table.specs.RowHistory.{File}
use Rattle.inode_table.specs.Totals.{block_count}
use Rattle.inode_table.proofs.Lessening.{blocks_removed}
use Rattle.inode_table.proofs.merging.drop_of_file.Goals as goal

pub returns : goal.returns
returns c =
    let gone = c.drop_at-blocks.ensures.removed in
    record {
      rows = ap (λ (f : FileHistory). File f) gone;
      room = c.drop_at-blocks.ensures.room;
      ids = c.new.ensures;
      blocks = c.drop_at-blocks.ensures.blocks;
      count = let sum = blocks_removed c.args.file.now.history.records c.args.i in let same = ap (λ (f : FileHistory). block_count (File f)) gone in omega (arith, sum, same, c.saved_blocks-count.ensures);
      named = λ x. let none = ap (times x) c.new.ensures in omega (arith, none);
      lighter = omega (arith, c.drop_at-blocks.ensures.records);
    }
