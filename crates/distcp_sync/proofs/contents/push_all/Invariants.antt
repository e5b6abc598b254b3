use Rattle.std.proofs.Common.{◌≡◌, ◌++◌}
use Rattle.distcp_sync.proofs.contents.push_all.Given as goal

-- those so far and those that are left are all
abbrev pub invariant-loop-item : goal.invariant-loop-item
invariant-loop-item g l = l.items.items ++ l.item-iterator.rest.items ≡ l.initial.items.items ++ l.initial.item-iterator.rest.items
