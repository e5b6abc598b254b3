use Rattle.std.proofs.Common.{rules}
use Rattle.std.proofs.lemmas.List.Sorted.{IsPartitionPoint-from_clause, IsPartitionedBy-leb}
use Rattle.inode_table.specs.Indexed.{is_upto}
use Rattle.inode_table.proofs.noted.upto.Goals as goal

pub returns-clause-point : goal.returns-clause-point
returns-clause-point c =
    IsPartitionPoint-from_clause (is_upto c.args.tick) _ _ c.partition_point.ensures.partitioned (IsPartitionedBy-leb (λ e. e.tick) _ c.args.tick c.requires) (λ a r q k. search rules)
