use Rattle.std.proofs.Common.{sym, ◌∙◌}
use Rattle.hs_plain.specs.Tree.{node_at}
use Rattle.namenode_write.proofs.RowTests.{over_node}
use Rattle.namenode_write.proofs.rows.refusals.takes_place.Goals as goal

pub returns-then-over : goal.returns-then-over
returns-then-over c snaps state all =
    c.refuse_if.ensures ∙ over_node (node_at state.tree c.args.path.now) c.in-Some.id c.args.over c.is_dir_at.result c.if-over.true (sym (c.node_there.ensures snaps state all) ∙ c.in-Some.is)
    (λ node at same. c.is_dir_at.ensures snaps state all c.args.path.now node at same)
