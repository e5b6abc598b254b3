use Rattle.std.proofs.Common.{◌-◌, ◌≡◌, ◌<◌, ◌≤◌, length}
use Rattle.std.specs.declared.cmp.Ordering.TheVariants.{Less}
use Rattle.dir_changes.specs.Entries.{name_order}
use Rattle.dir_changes.specs.Children.{name_at, AllBefore}
use Rattle.dir_changes.proofs.search.place.Given as goal

-- the names below `low` are smaller, and the one at `high` is greater
abbrev pub invariant-loop-low : goal.invariant-loop-low
invariant-loop-low l = record {
  ordered : l.low ≤ l.high;
  bound : l.high ≤ length l.children;
  before : AllBefore l.name l.children l.low;
  after : l.high < length l.children → name_order l.name (name_at l.children l.high) ≡ Less;
}

abbrev pub decreases-loop-low : goal.decreases-loop-low
decreases-loop-low l = l.high - l.low
