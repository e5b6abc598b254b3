use Rattle.std.proofs.Common.{ltb, ltb-true, ltb-false, arith, rules, ◌∙◌}
use Rattle.std.proofs.lemmas.List.Sorted.{IsPartitionPoint-from_clause, IsPartitionedBy-ltb}
use Rattle.change_history.proofs.Numbers.{numbers_rise}
use Rattle.change_history.proofs.Readings.{records_from-drop}
use Rattle.change_history.proofs.numbered.records_from.Goals as goal

pub returns : goal.returns
returns g c =
    let number = g.T.Numbered.number_of in
    let rs = c.args.records.now in
    let s = c.args.s.0 in
    let parted = IsPartitionedBy-ltb number rs s (numbers_rise number 0 rs c.requires) in
    let point = IsPartitionPoint-from_clause (λ r. ltb (number r) s) rs _ c.partition_point-first.ensures.partitioned parted (λ a r q k. search rules) in
    c.split_at.ensures.back
    ∙ records_from-drop number s rs c.partition_point-first.result c.partition_point-first.ensures.bound
    (λ j d lt. ltb-true _ _ (point.0 j d (omega arith) lt)) (λ d lt. ltb-false _ _ (point.1 _ d (omega arith) lt))
