use Rattle.std.proofs.Common.{rules, ◌≡◌, List, [], ◌∷◌, sym, subst, arith}
use Rattle.std.proofs.lemmas.Grind.{common_steps}
use Rattle.turn_lock.specs.Seats.{Seat, AreAll}
use Rattle.turn_lock.proofs.Order.{from_zero_in_order, in_order_are_all}
use Rattle.turn_trials.proofs.turns.Round.end.Goals as goal

pub finish-requires-clause-all : goal.finish-requires-clause-all
finish-requires-clause-all g c =
    let lock = c.args.self.lock in
    let first = c.args.self.first in
    let second = c.args.self.second in
    let both : c.of.result ≡ first ∷ second ∷ [] = first_of (search rules, grind (arith, common_steps)) in
    subst (λ (l : List Seat). AreAll lock l) (sym both)
    (in_order_are_all lock (first ∷ second ∷ []) (from_zero_in_order lock (first ∷ second ∷ []) (search rules) (search rules))).0
