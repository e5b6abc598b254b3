use Rattle.std.proofs.Common.{◌≡◌, ◌+◌, ◌≤◌, ◌++◌, map, length, vec_len, vec_capacity}
use Rattle.std.specs.List.{zip}
use Rattle.hs_plain.proofs.snapshot_change.push_renamed.Given as goal

-- the snapshots so far and those that are left are all, and there is room for them
abbrev pub invariant-loop-member : goal.invariant-loop-member
invariant-loop-member g l = record {
  left : l.renamed.items ++ map (λ pair. record pair.0 { name = pair.1 }) (zip l.member-iterator.a.rest.items l.member-iterator.b.rest.items) ≡ l.fn.renamed.items ++ map (λ pair. record pair.0 { name = pair.1 }) (zip l.fn.members.items l.fn.names.items);
  same : length l.member-iterator.b.rest.items ≡ length l.member-iterator.a.rest.items;
  room : vec_len l.renamed + length l.member-iterator.a.rest.items ≤ vec_capacity l.renamed;
}
