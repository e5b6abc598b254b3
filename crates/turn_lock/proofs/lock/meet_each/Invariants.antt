use Rattle.std.proofs.Common.{◌≡◌, List, ◌++◌, map, true}
use Rattle.std.specs.Prelude.{All}
use Rattle.turn_lock.specs.Histories.{LeadsOn}
use Rattle.turn_lock.specs.Seats.{Seat}
use Rattle.turn_lock.proofs.lock.meet_each.Given as goal

abbrev pub invariant-loop-seated : goal.invariant-loop-seated
invariant-loop-seated g l =
    (l.holder.table_id ≡ l.initial.holder.table_id)
    × (l.holder.me.0.live ≡ true)
    × (l.holder.me.0.holds ≡ true)
    × (l.holder.me.0.seen ≡ l.initial.holder.me.0.seen)
    × All (λ (s : Seat). s.lock.table ≡ l.turns.table_id) (map g.S.Seated.seat l.others.items)
    × ((rest : List Seat) × (map g.S.Seated.seat l.others.items ++ rest ≡ map g.S.Seated.seat l.initial.others.items) × All (λ (s : Seat). LeadsOn s.caller s.seen l.initial.holder.me.0.seen) rest)

abbrev pub decreases-loop-seated : goal.decreases-loop-seated
decreases-loop-seated g l = goal.left-loop-seated g l
