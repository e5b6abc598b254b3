use Rattle.std.proofs.Common.{◌≡◌, ◌+◌, ◌≤◌, ◌++◌, length, vec_len, vec_capacity}
use Rattle.std.specs.Prelude.{All}
use Rattle.namenode_lock.specs.Passes.{IsNew, AreNewFrom, seats_of}
use Rattle.namenode_lock.proofs.pass.passes_for.Given as goal

abbrev pub invariant-loop-seat : goal.invariant-loop-seat
invariant-loop-seat l = record {
  fresh : AreNewFrom l.next l.seat-iterator.rest.items;
  made : seats_of l.passes.items ++ l.seat-iterator.rest.items ≡ l.fn.seats;
  new : All IsNew l.passes.items;
  count : l.next + length l.seat-iterator.rest.items ≡ length l.fn.seats;
  room : vec_len l.passes + length l.seat-iterator.rest.items ≤ vec_capacity l.passes;
}
