use Rattle.std.proofs.Common.{◌≡◌, ◌+◌, drop}
use Rattle.std.specs.List.{prefix_len}
use Rattle.hs_plain.specs.State.{is_lesser}
use Rattle.paged_listing.proofs.snapshots.rank_of.Given as goal

-- each item so far is lesser
abbrev pub invariant-loop-rank : goal.invariant-loop-rank
invariant-loop-rank l = l.rank + prefix_len (is_lesser l.name) (drop l.rank l.items) ≡ prefix_len (is_lesser l.name) l.items
