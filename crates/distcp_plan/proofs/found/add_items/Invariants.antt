use Rattle.std.proofs.Common.{◌≡◌, drop}
use Rattle.distcp_plan.specs.Planned.{by_items}
use Rattle.distcp_plan.proofs.found.add_items.Given as goal

abbrev pub invariant-loop-item : goal.invariant-loop-item
invariant-loop-item l = by_items l.moves l.dir (drop l.item-index l.items) l.found ≡ by_items l.moves l.dir l.items l.initial.found
