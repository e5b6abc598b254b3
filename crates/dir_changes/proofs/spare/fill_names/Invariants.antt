use Rattle.std.proofs.Common.{◌-◌, ◌≤◌, vec_len}
use Rattle.dir_changes.proofs.spare.fill_names.Given as goal

abbrev pub invariant-loop-alloc : goal.invariant-loop-alloc
invariant-loop-alloc l = vec_len l.initial.names ≤ vec_len l.names

abbrev pub decreases-loop-alloc : goal.decreases-loop-alloc
decreases-loop-alloc l = l.count - vec_len l.names
