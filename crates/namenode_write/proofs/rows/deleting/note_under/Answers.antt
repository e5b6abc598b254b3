use Rattle.std.proofs.Common.{sym, ap, ◌∙◌}
use Rattle.block_contents.proofs.Told.{on_ok}
use Rattle.namenode_write.specs.GoneDirs.{push_if}
use Rattle.namenode_write.proofs.rows.deleting.note_under.Goals as goal

pub returns-then-is_under : goal.returns-then-is_under
returns-then-is_under c =
    on_ok c.push.result (λ pushed snaps state all path place at there. pushed ∙ sym (ap (λ b. push_if b c.args.dir c.args.gone.now) (sym (c.is_under.ensures snaps state all path place at there) ∙ c.if-is_under.true))) c.push.ensures.ok

pub returns-else-is_under : goal.returns-else-is_under
returns-else-is_under c = λ snaps state all path place at there. sym (ap (λ b. push_if b c.args.dir c.args.gone.now) (sym (c.is_under.ensures snaps state all path place at there) ∙ c.if-is_under.false))
