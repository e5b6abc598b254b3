use Rattle.std.proofs.Common.{◌∙◌}
use Rattle.inode_table.specs.Kept.{told}
use Rattle.path_resolver.proofs.Stays.{stands-told}
use Rattle.path_resolver.proofs.upward.stands_at.Goals as goal

pub returns : goal.returns
returns c state all = c.placed.ensures ∙ stands-told (told c.args.table.now) c.args.snaps.now state all c.always.ensures.proper c.args.place
