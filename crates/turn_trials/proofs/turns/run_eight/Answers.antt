use Rattle.std.proofs.Common.{◌≡◌, List, sym, subst, rules, arith}
use Rattle.std.proofs.lemmas.Grind.{common_steps}
use Rattle.turn_lock.specs.Seats.{Seat, AreInOrder}
use Rattle.turn_lock.proofs.Rows.{all_in_order}
use Rattle.turn_trials.proofs.turns.run_eight.Goals as goal

pub finish-requires-clause-all : goal.finish-requires-clause-all
finish-requires-clause-all g c =
    let whole : c.of.result ≡ c.take_turns.new.seats = (first_of (search rules, grind (arith, common_steps))) in
    all_in_order c.in_ok-lock.lock c.of.result (subst (λ (l : List Seat). AreInOrder c.in_ok-lock.lock l) (sym whole) c.take_turns.ensures)
