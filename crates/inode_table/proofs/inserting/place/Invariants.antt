use Rattle.std.proofs.Common.{◌≡◌, ◌-◌, ◌≤◌, vec_len, vec_capacity}
use Rattle.inode_table.specs.Numbered.{numbered}
use Rattle.inode_table.proofs.inserting.place.Given as goal

abbrev pub invariant-fill : goal.invariant-fill
invariant-fill l = record {
  same : numbered 0 l.rows.items ≡ numbered 0 l.initial.rows.items;
  len : vec_len l.rows ≤ l.at;
  capacity : vec_capacity l.rows ≡ vec_capacity l.initial.rows;
}

abbrev pub decreases-fill : goal.decreases-fill
decreases-fill l = l.at - vec_len l.rows
