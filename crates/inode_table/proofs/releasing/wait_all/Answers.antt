use Rattle.std.proofs.Common.{◌-◌, length, ap, ◌∙◌, length-append, arith}
use Rattle.file_changes.specs.History.{FileHistory}
use Rattle.inode_table.specs.Totals.{blocks_saved}
use Rattle.inode_table.proofs.Lessening.{only-few}
use Rattle.inode_table.proofs.Dropped.{below-next}
use Rattle.inode_table.proofs.releasing.wait_all.Goals as goal

pub wait-requires : goal.wait-requires
wait-requires c =
    let few = only-few (c.loop-left.left - 1) c.loop-left.file.history in
    let are = ap length (c.items.ensures ∙ c.drop_at-blocks.ensures.blocks) in
    omega (arith, few, are, c.loop-left.invariant.room)

pub loop-left-preserved : goal.loop-left-preserved
loop-left-preserved c =
    let n = c.loop-left.left - 1 in
    let file = c.loop-left.file.history in
    let few = only-few n file in
    let are = c.items.ensures ∙ c.drop_at-blocks.ensures.blocks in
    let long = ap length are in
    let put = ap length c.wait.ensures.blocks in
    let sum = length-append c.loop-left.waiting.items c.items.result.now in
    let gone = c.drop_at-blocks.ensures.removed in
    record {
      left = let one = c.drop_at-blocks.ensures.records in let was = c.loop-left.invariant.left in let some = c.loop-left-test.true in omega (arith, one, was, some);
      blocks = below-next n c.loop-left.left c.loop-left.waiting.items c.wait.new.waiting.items c.items.result.now file c.drop_at-blocks.new.self.history _ (let some = c.loop-left-test.true in omega (arith, some)) gone are c.wait.ensures.blocks c.loop-left.invariant.blocks;
      room = omega (arith, few, long, put, sum, c.wait.new.waiting.ok.0, c.loop-left.waiting.ok.0, c.wait.ensures.capacity, c.loop-left.invariant.room, ap (λ (f : FileHistory). length f.current.blocks) gone, ap (λ (f : FileHistory). blocks_saved f.records) gone);
      capacity = c.wait.ensures.capacity ∙ c.loop-left.invariant.capacity;
    }
