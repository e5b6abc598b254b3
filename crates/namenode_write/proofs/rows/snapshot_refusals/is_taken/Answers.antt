use Rattle.std.proofs.Common.{sym, ap, ◌∙◌}
use Rattle.std.specs.Prelude.{is_some}
use Rattle.namenode_write.proofs.SnapTests.{some-copied, taken-told}
use Rattle.namenode_write.proofs.rows.snapshot_refusals.is_taken.Goals as goal

pub returns : goal.returns
returns c = λ table state all. c.is_some.ensures ∙ sym (some-copied c.by_name.result) ∙ ap is_some c.by_name.ensures ∙ taken-told table c.args.snaps.now state all c.args.dir c.args.name.now
