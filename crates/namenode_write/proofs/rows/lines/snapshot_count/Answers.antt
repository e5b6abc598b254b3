use Rattle.std.proofs.Common.{◌≡◌, ◌+◌, ◌-◌, ◌^◌, ◌≤◌, ℕ, min, length, sym, ap, subst, ◌∙◌, arith}
use Rattle.std.proofs.Math.Nat.{min-le_right, min-eq_left}
use Rattle.snapshot_manager.specs.Snapshots.{snaps_of, snaps_in}
use Rattle.path_resolver.proofs.Over.{step-less}
use Rattle.namenode_write.specs.RowCounts.{snaps_of_all, snaps_from}
use Rattle.namenode_write.proofs.RowCounts.{snaps-first, snaps-next, counted, capped-more}
use Rattle.namenode_write.proofs.rows.lines.snapshot_count.Goals as goal

abbrev most : ℕ
most = 2 ^ 64 - 1

pub loop-next-init : goal.loop-next-init
loop-next-init c = record {
  within = omega arith;
  sum = ap (λ n. min n most)
      {x = 0 + snaps_from c.args.snaps.now c.dir_at-next.result} {y = snaps_of_all c.args.snaps.now c.args.snaps.now.dirs}
      (let first = ap (snaps_from c.args.snaps.now) c.dir_at-next.ensures ∙ snaps-first c.args.snaps.now c.always.ensures.proper.dirs_rise in omega (arith, first));
}

pub loop-next-smaller : goal.loop-next-smaller
loop-next-smaller c = step-less c.args.snaps.now.dirs c.loop-next.next c.dir_after-next.result c.in-Some.dir c.in-Some.is c.dir_after-next.ensures

pub loop-next-preserved : goal.loop-next-preserved
loop-next-preserved c =
    let snaps = c.args.snaps.now in
    let own : c.unwrap_or.result ≡ length (snaps_in snaps c.in-Some.dir) = counted (snaps_of snaps c.in-Some.dir) c.count_of.result c.unwrap_or.result c.count_of.ensures c.unwrap_or.ensures in
    let here : snaps_from snaps c.loop-next.next ≡ length (snaps_in snaps c.in-Some.dir) + snaps_from snaps c.dir_after-next.result =
    snaps-next snaps c.always.ensures.proper.dirs_rise c.loop-next.next c.dir_after-next.result c.in-Some.dir c.in-Some.is c.dir_after-next.ensures in
    record {
      within = subst (λ n. n ≤ most) (sym c.saturating_add-count.ensures) (min-le_right (c.loop-next.count + c.unwrap_or.result) most);
      sum = capped-more c.loop-next.count c.unwrap_or.result (snaps_from snaps c.dir_after-next.result) most c.saturating_add-count.result c.saturating_add-count.ensures
          ∙ ap (λ n. min n most) {x = c.loop-next.count + (c.unwrap_or.result + snaps_from snaps c.dir_after-next.result)} {y = c.loop-next.count + snaps_from snaps c.loop-next.next} (omega (arith, own, here))
          ∙ c.loop-next.invariant.sum;
    }

pub returns : goal.returns
returns c =
    let snaps = c.args.snaps.now in
    let within : c.loop-next.count ≤ most = c.loop-next.invariant.within in
    let none : snaps_from snaps c.loop-next.next ≡ 0 = ap (snaps_from snaps) c.in_default.is in
    sym (min-eq_left within)
    ∙ ap (λ n. min n most) {x = c.loop-next.count} {y = c.loop-next.count + snaps_from snaps c.loop-next.next} (omega (arith, none))
    ∙ c.loop-next.invariant.sum
