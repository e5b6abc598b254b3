use Rattle.std.proofs.Common.{◌+◌, ◌++◌, drop, ap, ◌∙◌}
use Rattle.hs_plain.specs.Tree.{Tree, subtree}
use Rattle.hs_plain.proofs.Subtrees.{subtree_step}
use Rattle.hs_plain.proofs.subtree.subtree.Goals as goal

pub loop-place-preserved : goal.loop-place-preserved
loop-place-preserved c =
    let tree = c.args.tree.now in
    let path = c.args.path.now in
    let i = c.loop-place.place-index in
    ap (λ (front : Tree _). front ++ subtree (drop (i + 1) tree) path) c.in_ok-push_under.ensures
    ∙ subtree_step path tree i c.place-item.result c.loop-place.copies.items c.loop-place-test.true c.place-item.is
    ∙ c.loop-place.invariant
