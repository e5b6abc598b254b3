use Rattle.std.proofs.Common.{sym, ◌∙◌}
use Rattle.inode_table.specs.Kept.{told}
use Rattle.path_resolver.proofs.Holds.{meets-held, first-true, first-false}
use Rattle.path_resolver.proofs.above.meets_snapshottable.Goals as goal

pub returns-then-in_by_rows : goal.returns-then-in_by_rows
returns-then-in_by_rows c state all at = first-true _ c.if-in_by_rows.true c.in_by_rows.ensures ∙ sym (meets-held (told c.args.table.now) c.args.snaps.now state all c.args.names.now c.args.id at)

pub returns-else-in_by_rows : goal.returns-else-in_by_rows
returns-else-in_by_rows c state all at = first-false c.if-in_by_rows.false c.in_by_rows.ensures c.holds.ensures ∙ sym (meets-held (told c.args.table.now) c.args.snaps.now state all c.args.names.now c.args.id at)
