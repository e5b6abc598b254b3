use Rattle.std.proofs.Common.{◌≡◌, ◌≤◌}
use Rattle.std.specs.Prelude.{vec_capacity}
use Rattle.turn_lock.specs.Seats.{AreDealt}
use Rattle.turn_lock.proofs.Dealing.{dealing}
use Rattle.turn_lock.proofs.lock.deal.Given as goal

abbrev pub invariant-loop : goal.invariant-loop
invariant-loop g l =
    (l.first.table_id ≡ l.initial.first.table_id)
    × (l.first.me.0 ≡ dealing l.seats l.initial.first.me.0.kept l.counter)
    × (l.seats ≤ vec_capacity l.dealt)
    × AreDealt l.initial.first.table_id l.seats l.initial.first.me.0.kept l.counter l.dealt.items
