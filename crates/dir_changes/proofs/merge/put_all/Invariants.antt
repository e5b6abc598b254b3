use Rattle.std.proofs.Common.{◌≡◌, ◌+◌, ◌≤◌, ◌++◌, vec_len, vec_capacity}
use Rattle.std.specs.Prelude.{IsTrue}
use Rattle.std.specs.VecDeque.{deque_len}
use Rattle.dir_changes.specs.Entries.{in_order, with_all}
use Rattle.dir_changes.proofs.merge.put_all.Given as goal

-- what is moved, and then the rest put together, is the whole put together
abbrev pub invariant-loop-child : goal.invariant-loop-child
invariant-loop-child l = record {
  moved : l.out.items ++ with_all l.more.items l.list.items ≡ l.initial.out.items ++ with_all l.initial.more.items l.initial.list.items;
  list_in_order : IsTrue (in_order l.list.items);
  more_in_order : IsTrue (in_order l.more.items);
  capacity : vec_capacity l.out ≡ vec_capacity l.initial.out;
  room : vec_len l.out + (deque_len l.list + deque_len l.more) ≤ vec_len l.initial.out + (deque_len l.initial.list + deque_len l.initial.more);
  fits : vec_len l.initial.out + (deque_len l.initial.list + deque_len l.initial.more) ≤ vec_capacity l.out;
}

abbrev pub decreases-loop-child : goal.decreases-loop-child
decreases-loop-child l = deque_len l.more
