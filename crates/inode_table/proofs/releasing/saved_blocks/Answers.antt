use Rattle.std.proofs.Common.{None, Some, length, ap, sym, ◌∙◌}
use Rattle.inode_table.proofs.Dropped.{saved_at}
use Rattle.inode_table.proofs.releasing.saved_blocks.Goals as goal

pub returns-in-Some : goal.returns-in-Some
returns-in-Some c = c.len.ensures ∙ sym (ap length (saved_at c.args.file.now.history.records c.args.i (Some c.in-Some.state.now) c.in-Some.ensures))

pub returns-in-None : goal.returns-in-None
returns-in-None c = sym (ap length (saved_at c.args.file.now.history.records c.args.i None c.in-None.ensures))
