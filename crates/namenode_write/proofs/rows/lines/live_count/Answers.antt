use Rattle.std.proofs.Common.{◌≡◌, ◌^◌, ◌<◌, ap, ◌∙◌, arith}
use Rattle.std.proofs.lemmas.Grind.{common_steps}
use Rattle.std.proofs.Math.Nat.{min-eq_left}
use Rattle.namenode_write.proofs.RowCounts.{snaps-counted, few-members}
use Rattle.namenode_write.proofs.rows.lines.live_count.Goals as goal

pub returns : goal.returns
returns c = λ table state all.
    let small : c.issued-issued.result.0 < 2 ^ 64 = grind (arith, common_steps) in
    let same : c.issued-issued.result.0 ≡ c.args.snaps.now.issued.0 = ap (λ id. id.0) c.issued-issued.ensures in
    let few = few-members table c.args.snaps.now state all in
    let count = snaps-counted table c.args.snaps.now state all c.always.ensures.proper in
    c.snapshot_count.ensures ∙ min-eq_left (omega (arith, small, same, few, count)) ∙ count
