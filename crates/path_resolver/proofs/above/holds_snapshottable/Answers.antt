use Rattle.std.proofs.Common.{sym, ◌∙◌}
use Rattle.inode_table.specs.Kept.{told}
use Rattle.path_resolver.proofs.Holds.{snapshottable-held}
use Rattle.path_resolver.proofs.above.holds_snapshottable.Goals as goal

pub returns : goal.returns
returns c state all path at = c.holds.ensures ∙ sym (snapshottable-held (told c.args.table.now) c.args.snaps.now state all path c.args.id at)
