use Rattle.std.proofs.Common.{Ok, Err, sym, ◌∙◌}
use Rattle.inode_table.specs.Kept.{told}
use Rattle.path_resolver.proofs.Live.{node-there}
use Rattle.path_resolver.proofs.by_rows.node_there.Goals as goal

pub returns-in-Ok : goal.returns-in-Ok
returns-in-Ok c snaps state all = node-there (told c.args.table.now) snaps state all c.args.names.now (Ok c.in-Ok.id) (sym c.walk.ensures ∙ c.in-Ok.is)

pub returns-in-Err : goal.returns-in-Err
returns-in-Err c snaps state all = node-there (told c.args.table.now) snaps state all c.args.names.now (Err c.in-Err.field-0) (sym c.walk.ensures ∙ c.in-Err.is)
