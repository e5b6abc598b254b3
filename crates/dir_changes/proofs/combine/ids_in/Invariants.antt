use Rattle.std.proofs.Common.{◌≡◌, take, vec_len, vec_capacity}
use Rattle.dir_changes.specs.History.{ids_of}
use Rattle.dir_changes.proofs.combine.ids_in.Given as goal

abbrev pub invariant-loop-child : goal.invariant-loop-child
invariant-loop-child l = record {
  so_far : l.ids.items ≡ ids_of (take l.child-index l.children);
  len : vec_len l.ids ≡ l.child-index;
  capacity : vec_capacity l.ids ≡ vec_capacity l.initial.ids;
}
