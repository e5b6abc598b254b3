use Rattle.std.proofs.Common.{◌∙◌}
use Rattle.inode_table.specs.Kept.{told}
use Rattle.path_resolver.proofs.Under.{under}
use Rattle.path_resolver.proofs.above.is_under.Goals as goal

pub returns : goal.returns
returns c snaps state all path place at there = c.comes_to.ensures ∙ under (told c.args.table.now) snaps state all path place c.args.above c.args.id at there
