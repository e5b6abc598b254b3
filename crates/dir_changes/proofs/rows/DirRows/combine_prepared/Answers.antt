use Rattle.std.proofs.Common.{◌≡◌, sym, subst, arith}
use Rattle.dir_changes.specs.History.{DirHistory, without_record}
use Rattle.dir_changes.specs.Sound.{IsSound}
use Rattle.dir_changes.specs.Inside.{dir_history, records_in, HasSpot}
use Rattle.dir_changes.proofs.OrderLaws.{sound-combined}
use Rattle.dir_changes.proofs.rows.DirRows.combine_prepared.Goals as goal

pub invariant_of-self : goal.invariant_of-self
invariant_of-self c =
    let dir : DirHistory = dir_history c.self.inside in
    let now : without_record c.args.i dir ≡ record dir { records = records_in c.combine_in.new.past } = λ i. record dir { records = sym c.combine_in.ensures.records i } in
    record {
      sound = subst IsSound now (sound-combined dir c.self.invariant.sound c.args.i);
      children_room = omega (arith, c.self.invariant.children_room, c.combine_in.ensures.edits);
      ready = c.combine_in.ensures.ready;
      spot = subst (HasSpot c.self.inside.spot) (sym c.combine_in.ensures.fresh) c.self.invariant.spot;
    }

pub returns-clause-sound : goal.returns-clause-sound
returns-clause-sound c =
    let dir : DirHistory = dir_history c.self.inside in
    let now : without_record c.args.i dir ≡ record dir { records = records_in c.combine_in.new.past } = λ i. record dir { records = sym c.combine_in.ensures.records i } in
    subst IsSound now (sound-combined dir c.self.invariant.sound c.args.i)
