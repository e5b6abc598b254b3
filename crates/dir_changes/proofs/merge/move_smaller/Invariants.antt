use Rattle.std.proofs.Common.{◌≡◌, ◌+◌, ◌≤◌, ◌++◌, vec_len, vec_capacity}
use Rattle.std.specs.VecDeque.{deque_len}
use Rattle.dir_changes.specs.Merge.{smaller, greater}
use Rattle.dir_changes.proofs.merge.move_smaller.Given as goal

-- what is moved, and then what is smaller in the rest, is what is smaller in the whole
abbrev pub invariant-loop-first : goal.invariant-loop-first
invariant-loop-first l = record {
  moved : l.out.items ++ smaller l.name l.list.items ≡ l.initial.out.items ++ smaller l.name l.initial.list.items;
  rest : greater l.name l.list.items ≡ greater l.name l.initial.list.items;
  capacity : vec_capacity l.out ≡ vec_capacity l.initial.out;
  room : vec_len l.out + deque_len l.list ≤ vec_len l.initial.out + deque_len l.initial.list;
}

abbrev pub decreases-loop-first : goal.decreases-loop-first
decreases-loop-first l = deque_len l.list
