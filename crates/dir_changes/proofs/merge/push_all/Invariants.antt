use Rattle.std.proofs.Common.{◌≡◌, ◌+◌, ◌≤◌, ◌++◌, vec_len, vec_capacity}
use Rattle.std.specs.VecDeque.{deque_len}
use Rattle.dir_changes.proofs.merge.push_all.Given as goal

abbrev pub invariant-loop-child : goal.invariant-loop-child
invariant-loop-child l = record {
  moved : l.out.items ++ l.list.items ≡ l.initial.out.items ++ l.initial.list.items;
  capacity : vec_capacity l.out ≡ vec_capacity l.initial.out;
  room : vec_len l.out + deque_len l.list ≡ vec_len l.initial.out + deque_len l.initial.list;
  fits : vec_len l.initial.out + deque_len l.initial.list ≤ vec_capacity l.out;
}

abbrev pub decreases-loop-child : goal.decreases-loop-child
decreases-loop-child l = deque_len l.list
