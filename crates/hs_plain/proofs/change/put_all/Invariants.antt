use Rattle.std.proofs.Common.{◌≡◌, ◌+◌, ◌≤◌, true, map, length, vec_len, vec_capacity}
use Rattle.std.specs.List.{zip}
use Rattle.std.specs.FinMap.Entries.{is_sorted}
use Rattle.hs_plain.specs.Tree.{path_cmp}
use Rattle.hs_plain.specs.Change.{at_new, put_all}
use Rattle.hs_plain.proofs.change.put_all.Given as goal

-- the places that are left lead to the list of all, there is room for them, and the paths rise
abbrev pub invariant-loop-path : goal.invariant-loop-path
invariant-loop-path g l = record {
  left : put_all l.sorted.items (map (λ pair. at_new pair.0 pair.1) (zip l.path-iterator.a.rest.items l.path-iterator.b.rest.items)) ≡ put_all l.fn.sorted.items (map (λ pair. at_new pair.0 pair.1) (zip l.fn.places.items l.fn.paths.items));
  same : length l.path-iterator.b.rest.items ≡ length l.path-iterator.a.rest.items;
  room : vec_len l.sorted + length l.path-iterator.a.rest.items ≤ vec_capacity l.sorted;
  rising : is_sorted path_cmp l.sorted.items ≡ true;
}
