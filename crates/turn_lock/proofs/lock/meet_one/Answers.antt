use Rattle.std.proofs.Common.{◌≡◌, ◌+◌, List, ap, subst, arith}
use Rattle.hs_types.specs.declared.journal.Entry.{Entry}
use Rattle.turn_lock.specs.Histories.{LeadsOn}
use Rattle.turn_lock.proofs.Finishing.{shows}
use Rattle.turn_lock.proofs.lock.meet_one.Goals as goal

pub returns-clause-leads : goal.returns-clause-leads
returns-clause-leads g c =
    let u = c.args.holder.now.me.0 in
    let v = c.stand_up-other.result.me.0 in
    let is = c.stand_up-other.ensures.at_rest in
    let from : v.from ≡ c.args.seat.caller = ap (λ m. m.0.from) is in
    let to : v.to ≡ c.args.seat.caller + 1 = ap (λ m. m.0.to) is in
    subst (λ (l : List Entry). LeadsOn c.args.seat.caller l u.seen) (ap (λ m. m.0.seen) is)
    (shows c.args.seat.caller u v c.meet.new.a.me.0 c.meet.new.b.me.0 c.requires.holds.1 (omega arith, omega arith) c.meet.ensures.first.0 c.meet.ensures.second.0)
