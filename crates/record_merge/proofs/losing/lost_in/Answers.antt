use Rattle.std.proofs.Common.{◌≡◌, suc, ◌+◌, sym, ap, ◌∙◌, arith}
use Rattle.inode_table.specs.Numbered.{history_of}
use Rattle.inode_table.specs.Records.{before_at}
use Rattle.inode_table.specs.Whole.{numbers_in}
use Rattle.record_merge.proofs.Merging.{live-more}
use Rattle.record_merge.proofs.losing.lost_in.Goals as goal

pub loop-i-preserved : goal.loop-i-preserved
loop-i-preserved c =
    let ns = numbers_in (history_of c.args.rows.now) in
    record {
      low = (let next : c.loop-i.i + 1 ≡ suc c.loop-i.i = omega arith in ap (before_at 0 ns) next ∙ c.number_at-number.ensures.next);
      live = live-more c.args.snaps.now ns c.loop-i.i c.loop-i.low.0 c.number_at-number.result.0 c.loop-i.invariant.low c.number_at-number.ensures.at (sym c.live_between.ensures ∙ c.if-not-live_between.false) c.loop-i.invariant.live;
    }
