use Rattle.std.proofs.Common.{sym, ◌∙◌}
use Rattle.inode_table.specs.Kept.{told}
use Rattle.path_resolver.proofs.Holds.{in-held}
use Rattle.path_resolver.proofs.above.is_in_snapshottable.Goals as goal

pub returns : goal.returns
returns c state all = c.in_by_rows.ensures ∙ sym (in-held (told c.args.table.now) c.args.snaps.now state all c.args.names.now)
