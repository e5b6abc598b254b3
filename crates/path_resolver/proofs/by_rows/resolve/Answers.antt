use Rattle.std.proofs.Common.{sym, ◌∙◌}
use Rattle.inode_table.specs.Kept.{told}
use Rattle.path_resolver.proofs.ByRows.{resolved_plain}
use Rattle.path_resolver.proofs.by_rows.resolve.Goals as goal

pub returns : goal.returns
returns c state all = c.place_at.ensures ∙ sym (resolved_plain (told c.args.table.now) c.args.snaps.now state all c.args.path.now)
