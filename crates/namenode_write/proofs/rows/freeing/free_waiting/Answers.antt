use Rattle.std.proofs.Common.{sym, ◌∙◌}
use Rattle.namenode_write.specs.Rows.{all_of}
use Rattle.namenode_write.proofs.RowFreed.{list-freed, none-left, put-back, all-done, stays-at}
use Rattle.namenode_write.proofs.rows.freeing.free_waiting.Goals as goal

pub returns-then-is_err-clause-standing : goal.returns-then-is_err-clause-standing
returns-then-is_err-clause-standing g c =
    let left = list-freed _ _ _ _ _ _ _ _ _ (all_of c.args.waiting.now.items) _ c.pop.new.self.items c.in-Some.blocks _ c.free_blocks.new.blocks.items c.loop-blocks.invariant c.in-Some.ensures.items c.into_vec-left.ensures
    c.free_blocks.ensures.standing c.free_blocks.ensures.tells c.free_blocks.ensures.count in
    stays-at _ _ _ _ c.args.waiting.now.items c.push_reserved.new.self.items (put-back _ _ _ _ _ _ _ _ _ _ _ c.push_reserved.ensures.items c.of.ensures left).standing

pub loop-blocks-preserved : goal.loop-blocks-preserved
loop-blocks-preserved g c =
    let left = list-freed _ _ _ _ _ _ _ _ _ (all_of c.args.waiting.now.items) _ c.pop.new.self.items c.in-Some.blocks _ c.free_blocks.new.blocks.items c.loop-blocks.invariant c.in-Some.ensures.items c.into_vec-left.ensures
    c.free_blocks.ensures.standing c.free_blocks.ensures.tells c.free_blocks.ensures.count in
    none-left _ _ _ _ _ _ _ _ c.pop.new.self.items (all-done c.free_blocks.result (sym c.is_err.ensures.value ∙ c.if-is_err.false) c.free_blocks.ensures.none) left
