use Rattle.std.proofs.Common.{rules, ◌≡◌, List, [], ◌∷◌, ◌++◌, map, ap, ◌∙◌, subst}
use Rattle.hs_types.specs.declared.journal.Entry.{Entry}
use Rattle.turn_lock.specs.Histories.{LeadsOn}
use Rattle.turn_lock.specs.Seats.{Seat}
use Rattle.turn_lock.proofs.Finishing.{met_more, all_met, all_popped, popped_map}
use Rattle.turn_lock.proofs.lock.meet_each.Goals as goal

pub loop-seated-preserved : goal.loop-seated-preserved
loop-seated-preserved g c =
    let inv = c.loop-seated.invariant in
    let met = c.meet_one.ensures in
    let log = c.args.holder.now.me.0.seen in
    let seat_of = g.S.Seated.seat in
    let seat = c.into_seat.result in
    let popped : map seat_of c.loop-seated.others.items ≡ map seat_of c.pop.new.self.items ++ seat ∷ [] = popped_map seat_of c.loop-seated.others.items c.pop.new.self.items c.in-Some.seated seat (search rules) c.into_seat.ensures in (
      met.table ∙ inv.0,
      met.holds.0,
      met.holds.1,
      met.same ∙ inv.3,
      all_popped (λ (s : Seat). s.lock.table ≡ c.args.turns.now.table_id) (map seat_of c.loop-seated.others.items) (map seat_of c.pop.new.self.items) seat popped inv.4,
      met_more (λ (s : Seat). LeadsOn s.caller s.seen log) (map seat_of c.args.others.items) (map seat_of c.loop-seated.others.items) (map seat_of c.pop.new.self.items) seat inv.5.0 popped inv.5.1 (subst (λ (l : List Entry). LeadsOn seat.caller seat.seen l) inv.3 met.leads) inv.5.2,
    )

pub returns : goal.returns
returns g c =
    let inv = c.loop-seated.invariant in
    let seat_of = g.S.Seated.seat in
    let none : c.loop-seated.others.items ≡ [] = search rules in
    all_met (λ (s : Seat). LeadsOn s.caller s.seen c.args.holder.now.me.0.seen) (map seat_of c.args.others.items) (map seat_of c.loop-seated.others.items) inv.5.0 (ap (map seat_of) none) inv.5.1 inv.5.2
