use Rattle.std.proofs.Common.{◌≡◌, ◌++◌, drop}
use Rattle.distcp_sync.specs.inside.Queue.{new_ids}
use Rattle.distcp_sync.proofs.queue.add_new.Given as goal

-- those so far and those of the items that are left are all
abbrev pub invariant-loop-item : goal.invariant-loop-item
invariant-loop-item l = l.ids.items ++ new_ids l.moves (drop l.item-index l.items) ≡ l.initial.ids.items ++ new_ids l.moves l.items
