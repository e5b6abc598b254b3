use Rattle.std.proofs.Common.{◌≡◌, ◌≤◌, ◌+◌, ◌++◌, take, drop, vec_len, vec_capacity}
use Rattle.std.specs.VecDeque.{deque_len}
use Rattle.dir_changes.specs.Entries.{among, without}
use Rattle.dir_changes.proofs.combine.take_found.Given as goal

-- the entries so far are sorted out: what is kept of them stands behind those that are left
abbrev pub invariant-loop : goal.invariant-loop
invariant-loop l = record {
  rest : l.list.items ≡ drop l.counter l.initial.list.items ++ without l.names (take l.counter l.initial.list.items);
  found : l.found.items ≡ l.initial.found.items ++ among l.names (take l.counter l.initial.list.items);
  len : deque_len l.list + vec_len l.found ≡ deque_len l.initial.list + vec_len l.initial.found;
  few : vec_len l.found ≤ vec_len l.initial.found + l.counter;
  capacity : vec_capacity l.found ≡ vec_capacity l.initial.found;
}
