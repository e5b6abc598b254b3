use Rattle.std.proofs.Common.{rules}
use Rattle.std.proofs.lemmas.List.Sorted.{IsPartitionPoint-from_clause}
use Rattle.hs_plain.specs.inside.Ranks.{is_after}
use Rattle.hs_plain.proofs.Halves.{prefix_len-from_point, IsPartitionedBy-path}
use Rattle.hs_plain.proofs.change.rank_by_halves.Goals as goal

pub returns-clause-rank : goal.returns-clause-rank
returns-clause-rank g c =
    let places = c.args.places.now in
    let path = c.args.path.now in
    let halves = IsPartitionedBy-path path places c.requires in
    prefix_len-from_point (is_after path) places _ c.partition_point.ensures.bound
    (IsPartitionPoint-from_clause (is_after path) _ _ c.partition_point.ensures.partitioned halves (λ a r f' k. search rules))
