use Rattle.std.proofs.Common.{ap, ◌∙◌}
use Rattle.std.specs.FinMap.Entries.{is_sorted}
use Rattle.hs_plain.specs.Tree.{path_cmp}
use Rattle.hs_plain.proofs.ValidTrees.{sorted-stamped}
use Rattle.hs_plain.proofs.change.grow.Goals as goal

pub put_place-requires-clause-sorted : goal.put_place-requires-clause-sorted
put_place-requires-clause-sorted g c =
    ap (is_sorted path_cmp) c.restamp_all.ensures.items
    ∙ sorted-stamped c.reserve-reserved.new.self.items c.parent_of.result.now c.args.tick (ap (is_sorted path_cmp) (c.reserve-reserved.ensures.items ∙ c.take-places.ensures.items) ∙ c.requires)
