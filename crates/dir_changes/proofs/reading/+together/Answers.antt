use Rattle.std.proofs.Common.{◌++◌, map, ◌∙◌}
use Rattle.dir_changes.specs.Recorded.{past_of, lists_of}
use Rattle.dir_changes.specs.Together.{StandsForAll}
use Rattle.dir_changes.proofs.TogetherLaws.{stands_joined}
use Rattle.dir_changes.proofs.HalvesLaws.{if_ok, cut}
use Rattle.std.proofs.Common.{◌≡◌, ◌/◌, length, subst}
use Rattle.dir_changes.proofs.reading.+together.Goals as goal

pub returns : goal.returns
returns n c =
    let rs = c.args.records.now in
    let front = map past_of c.split_at.result.0.now in
    let back = map past_of c.split_at.result.1.now in
    let whole : front ++ back ≡ map past_of rs = (λ i. map past_of (c.split_at.ensures.front i) ++ map past_of (c.split_at.ensures.back i)) ∙ cut (length rs / 2) rs in
    if_ok c.joined.result _ _
    (λ lists is. subst (StandsForAll (lists_of lists)) whole
    (stands_joined (lists_of c.in_ok-earlier.earlier) (lists_of c.in_ok-later.later) (lists_of lists) front back is c.in_ok-earlier.ensures c.in_ok-later.ensures))
    c.joined.ensures
