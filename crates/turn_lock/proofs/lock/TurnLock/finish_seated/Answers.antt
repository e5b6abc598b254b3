use Rattle.std.proofs.Common.{rules, ◌≡◌, ℕ, ◌+◌, ◌<◌, List, [], ◌∷◌, ◌++◌, map, sym, ap, ◌∙◌, subst, arith}
use Rattle.std.specs.Prelude.{All}
use Rattle.std.specs.Arc.{arc_value}
use Rattle.atomic_table.specs.Seated.{TableId}
use Rattle.hs_types.specs.declared.journal.Entry.{Entry}
use Rattle.turn_lock.specs.Histories.{LeadsOn, caller_of}
use Rattle.turn_lock.specs.Seats.{Seat, Lock}
use Rattle.turn_lock.proofs.Finishing.{all_push, all_last, each_seen, own_leads, popped_map, popped_of_lock}
use Rattle.turn_lock.proofs.lock.TurnLock.finish_seated.Goals as goal

pub take-value-requires-clause-table : goal.take-value-requires-clause-table
take-value-requires-clause-table g c =
    let mine = popped_of_lock g.S.Seated.seat c.args.self c.args.seated c.pop.new.self.items c.unwrap.result c.into_seat.result (search rules) c.into_seat.ensures c.requires.lock in
    let view : c.args.self.table ≡ c.self.inside.table.shared.table_id = search rules in
    c.stand_up-holder.ensures.table ∙ (ap (λ (l : Lock). l.table) mine.0 ∙ view)

pub meet_each-requires-clause-table : goal.meet_each-requires-clause-table
meet_each-requires-clause-table g c =
    let mine = popped_of_lock g.S.Seated.seat c.args.self c.args.seated c.pop.new.self.items c.unwrap.result c.into_seat.result (search rules) c.into_seat.ensures c.requires.lock in
    let view : c.args.self.table ≡ c.self.inside.table.shared.table_id = search rules in
    c.take-value.ensures.table ∙ (c.stand_up-holder.ensures.table ∙ (ap (λ (l : Lock). l.table) mine.0 ∙ view))

pub meet_each-requires-clause-lock : goal.meet_each-requires-clause-lock
meet_each-requires-clause-lock g c =
    let mine = popped_of_lock g.S.Seated.seat c.args.self c.args.seated c.pop.new.self.items c.unwrap.result c.into_seat.result (search rules) c.into_seat.ensures c.requires.lock in
    let view : c.args.self.table ≡ c.self.inside.table.shared.table_id = search rules in
    subst (λ (t : TableId). All (λ (s : Seat). s.lock.table ≡ t) (map g.S.Seated.seat c.pop.new.self.items)) view mine.1

pub returns-clause-kept : goal.returns-clause-kept
returns-clause-kept g c =
    let mine = popped_of_lock g.S.Seated.seat c.args.self c.args.seated c.pop.new.self.items c.unwrap.result c.into_seat.result (search rules) c.into_seat.ensures c.requires.lock in
    ap g.T.Historied.kept c.unwrap_alone.ensures ∙ (c.take-value.ensures.kept ∙ (ap (λ m. m.0.kept) c.stand_up-holder.ensures.at_rest ∙ ap (λ (l : Lock). l.kept) mine.0))

pub returns-clause-seen : goal.returns-clause-seen
returns-clause-seen g c =
    let found = g.T.Historied.history (arc_value c.take-value.result) in
    let log = g.T.Historied.history c.unwrap_alone.result in
    let same : found ≡ log = ap g.T.Historied.history (sym c.unwrap_alone.ensures) in
    let seat_of = g.S.Seated.seat in
    let seat = c.into_seat.result in
    let v = c.stand_up-holder.result.me.0 in
    let is = c.stand_up-holder.ensures.at_rest in
    let from : v.from ≡ seat.caller = ap (λ m. m.0.from) is in
    let to : v.to ≡ seat.caller + 1 = ap (λ m. m.0.to) is in
    let popped : map seat_of c.args.seated ≡ map seat_of c.pop.new.self.items ++ seat ∷ [] = popped_map seat_of c.args.seated c.pop.new.self.items c.unwrap.result seat (search rules) c.into_seat.ensures in
    let holder : c.take-value.new.place.me.0.seen ≡ log = ap (λ m. m.0.seen) c.take-value.ensures.holds ∙ same in
    let own : LeadsOn seat.caller seat.seen log = subst (λ (l : List Entry). LeadsOn seat.caller l log) (ap (λ m. m.0.seen) is) (subst (λ (l : List Entry). LeadsOn seat.caller v.seen l) same (own_leads seat.caller v found (omega arith, omega arith) c.take-value.ensures.finds)) in
    all_push (λ (s : Seat). LeadsOn s.caller s.seen log) (map seat_of c.pop.new.self.items) (map seat_of c.args.seated) seat popped (subst (λ (l : List Entry). All (λ (s : Seat). LeadsOn s.caller s.seen l) (map seat_of c.pop.new.self.items)) holder c.meet_each.ensures) own

pub returns-clause-entries : goal.returns-clause-entries
returns-clause-entries g c =
    let found = g.T.Historied.history (arc_value c.take-value.result) in
    let log = g.T.Historied.history c.unwrap_alone.result in
    let same : found ≡ log = ap g.T.Historied.history (sym c.unwrap_alone.ensures) in
    let seat_of = g.S.Seated.seat in
    let seat = c.into_seat.result in
    let v = c.stand_up-holder.result.me.0 in
    let popped : map seat_of c.args.seated ≡ map seat_of c.pop.new.self.items ++ seat ∷ [] = popped_map seat_of c.args.seated c.pop.new.self.items c.unwrap.result seat (search rules) c.into_seat.ensures in
    let mine : seat.lock ≡ c.args.self = all_last (λ (s : Seat). s.lock ≡ c.args.self) (map seat_of c.args.seated) (map seat_of c.pop.new.self.items) seat popped c.requires.lock in
    let seats : v.seats ≡ c.args.self.seats = ap (λ m. m.0.seats) c.stand_up-holder.ensures.at_rest ∙ ap (λ (l : Lock). l.seats) mine in
    each_seen c.args.self (map seat_of c.args.seated) log c.requires.all (returns-clause-seen g c)
    (subst (λ (n : ℕ). All (λ e. caller_of e < n) log) seats (subst (λ (l : List Entry). All (λ e. caller_of e < v.seats) l) same c.take-value.ensures.finds.callers))
