use Rattle.std.proofs.Common.{sym, ap, ◌∙◌}
use Rattle.std.specs.Prelude.{is_some}
use Rattle.path_resolver.proofs.Holds.{has-told}
use Rattle.namenode_write.proofs.rows.snapshot_refusals.has_snapshots.Goals as goal

pub returns : goal.returns
returns c = λ table state all. c.is_some.ensures ∙ ap is_some c.last_of.ensures ∙ sym (has-told table c.args.snaps.now state all c.args.dir)
