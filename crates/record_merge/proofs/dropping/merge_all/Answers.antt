use Rattle.std.proofs.Common.{◌<◌, ◌≤◌, length, arith}
use Rattle.inode_table.specs.Kept.{told}
use Rattle.record_merge.proofs.Merging.{rising-on, prepared-on, looks-on, looks-last}
use Rattle.record_merge.proofs.dropping.merge_all.Goals as goal

pub loop-id-preserved : goal.loop-id-preserved
loop-id-preserved c =
    let ids = c.args.ids.now in
    let i = c.loop-id.id-index in
    let within : i < length ids = omega (arith, c.loop-id-test.true) in
    record {
      rising = rising-on ids i (record { 0 = 0 }) within c.loop-id.invariant.rising;
      prepared = prepared-on ids i _ within c.loop-id.table c.merge_lost.new.table c.loop-id.invariant.rising c.loop-id.invariant.prepared c.merge_lost.ensures.there;
      room = c.merge_lost.ensures.room;
      looked = λ fewer issued are left.
          looks-on ids i _ within fewer issued (told c.args.table.now) (told c.loop-id.table) (told c.merge_lost.new.table) (c.loop-id.invariant.looked fewer issued are left)
          (λ todo still. c.merge_lost.ensures.looked fewer issued todo are still);
    }

pub returns-clause-looked : goal.returns-clause-looked
returns-clause-looked c = λ fewer issued are left.
    let ids = c.args.ids.now in
    let i = c.loop-id.id-index in
    let past : length ids ≤ i = omega (arith, c.loop-id-test.false) in
    looks-last fewer issued ids i (told c.args.table.now) (told c.loop-id.table) past (c.loop-id.invariant.looked fewer issued are left)
