use Rattle.std.proofs.Common.{◌≡◌, Some, None, sym, subst, arith}
use Rattle.dir_changes.specs.declared.spare.FreshRecord.{FreshRecord}
use Rattle.dir_changes.specs.History.{DirHistory, started}
use Rattle.dir_changes.specs.Sound.{IsSound}
use Rattle.dir_changes.specs.Inside.{dir_history, records_in, HasSpot}
use Rattle.dir_changes.proofs.OrderLaws.{sound-started}
use Rattle.dir_changes.proofs.rows.DirRows.push_started.Goals as goal

none_some : {x : FreshRecord} → None ≡ Some x → ⊥
none_some h = cc

pub invariant_of-self : goal.invariant_of-self
invariant_of-self c =
    let dir : DirHistory = dir_history c.self.inside in
    let now : started c.args.number dir ≡ record dir { records = records_in c.push_record.new.past } = λ i. record dir { records = sym c.push_record.ensures.records i } in
    record {
      sound = subst IsSound now (sound-started dir c.self.invariant.sound c.args.number (rw (← c.self.view_is) at c.requires.above));
      children_room = omega (arith, c.self.invariant.children_room, c.push_record.ensures.edits);
      ready = c.push_record.ensures.ready;
      spot = subst (HasSpot c.self.inside.spot) (sym c.push_record.ensures.fresh) (λ x is. absurd (none_some is));
    }

pub returns-clause-sound : goal.returns-clause-sound
returns-clause-sound c =
    let dir : DirHistory = dir_history c.self.inside in
    let now : started c.args.number dir ≡ record dir { records = records_in c.push_record.new.past } = λ i. record dir { records = sym c.push_record.ensures.records i } in
    subst IsSound now (sound-started dir c.self.invariant.sound c.args.number (rw (← c.self.view_is) at c.requires.above))
