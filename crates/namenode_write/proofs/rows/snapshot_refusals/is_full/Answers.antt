use Rattle.std.proofs.Common.{sym, ap, ◌∙◌}
use Rattle.std.specs.Prelude.{nat_le}
use Rattle.hs_types.specs.Limits.{snapshot_limit}
use Rattle.namenode_write.proofs.SnapTests.{full-some, full-none}
use Rattle.namenode_write.proofs.rows.snapshot_refusals.is_full.Goals as goal

pub returns-in-Some : goal.returns-in-Some
returns-in-Some c = λ table state all. ap (nat_le snapshot_limit) (sym (full-some table c.args.snaps.now state all c.args.dir c.in-Some.count (sym c.count_of.ensures ∙ c.in-Some.is)))

pub returns-in-None : goal.returns-in-None
returns-in-None c = λ table state all. ap (nat_le snapshot_limit) (sym (full-none table c.args.snaps.now state all c.args.dir (sym c.count_of.ensures ∙ c.in-None.is)))
