use Rattle.std.proofs.Common.{rules}
use Rattle.std.proofs.lemmas.List.Sorted.{IsPartitionPoint-from_clause}
use Rattle.hs_plain.proofs.Halves.{prefix_len-from_point}
use Rattle.paged_listing.specs.Items.{is_passed}
use Rattle.paged_listing.proofs.Behind.{IsPartitionedBy-passed}
use Rattle.paged_listing.proofs.listing.passed_count.Goals as goal

pub returns-clause-count : goal.returns-clause-count
returns-clause-count c =
    let children = c.args.children.now in
    let name = c.args.name.now in
    prefix_len-from_point (is_passed name) children _ c.partition_point.ensures.bound
    (IsPartitionPoint-from_clause (is_passed name) _ _ c.partition_point.ensures.partitioned (IsPartitionedBy-passed name children c.requires) (λ a r f' k. search rules))
