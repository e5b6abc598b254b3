use Rattle.std.proofs.Common.{◌∙◌}
use Rattle.inode_table.specs.Kept.{told}
use Rattle.path_resolver.proofs.Live.{child-count}
use Rattle.path_resolver.proofs.by_rows.child_count.Goals as goal

pub returns : goal.returns
returns c snaps state all path at = c.count_in.ensures ∙ child-count (told c.args.table.now) snaps state all path c.args.id at
