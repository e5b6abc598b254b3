use Rattle.std.proofs.Common.{sym, ◌∙◌}
use Rattle.inode_table.specs.Kept.{told}
use Rattle.path_resolver.proofs.Live.{walks-above}
use Rattle.path_resolver.proofs.by_rows.walks_above.Goals as goal

pub returns : goal.returns
returns c snaps state all = c.above_by_rows.ensures ∙ sym (walks-above (told c.args.table.now) snaps state all c.args.names.now)
