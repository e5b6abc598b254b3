use Rattle.std.proofs.Common.{◌≡◌, List, sym, subst}
use Rattle.std.specs.Prelude.{All}
use Rattle.std.proofs.lemmas.List.{map-id}
use Rattle.turn_lock.specs.Histories.{LeadsOn}
use Rattle.turn_lock.specs.Seats.{Seat, AreAll, EachIsSeen}
use Rattle.turn_lock.proofs.lock.TurnLock.finish.Goals as goal

pub finish_seated-requires-clause-lock : goal.finish_seated-requires-clause-lock
finish_seated-requires-clause-lock g c = subst (All (λ (s : Seat). s.lock ≡ c.args.self)) (sym (map-id c.args.seats)) c.requires.lock

pub finish_seated-requires-clause-all : goal.finish_seated-requires-clause-all
finish_seated-requires-clause-all g c = subst (AreAll c.args.self) (sym (map-id c.args.seats)) c.requires.all

pub returns-clause-seen : goal.returns-clause-seen
returns-clause-seen g c = subst (All (λ (s : Seat). LeadsOn s.caller s.seen (g.T.Historied.history c.finish_seated.result))) (map-id c.args.seats) c.finish_seated.ensures.seen

pub returns-clause-entries : goal.returns-clause-entries
returns-clause-entries g c = subst (λ (l : List Seat). EachIsSeen l (g.T.Historied.history c.finish_seated.result)) (map-id c.args.seats) c.finish_seated.ensures.entries
