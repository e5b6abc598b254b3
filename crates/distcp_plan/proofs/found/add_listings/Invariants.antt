use Rattle.std.proofs.Common.{◌≡◌, drop}
use Rattle.distcp_plan.specs.Planned.{by_listings}
use Rattle.distcp_plan.proofs.found.add_listings.Given as goal

abbrev pub invariant-loop-at : goal.invariant-loop-at
invariant-loop-at l = by_listings l.moves l.at (drop l.at l.listings) l.found ≡ by_listings l.moves 0 l.listings l.initial.found
