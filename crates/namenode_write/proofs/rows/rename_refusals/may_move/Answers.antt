use Rattle.std.proofs.Common.{sym, ap, ◌∙◌}
use Rattle.hs_types.specs.declared.refusal.Refusal.TheVariants.{Exists, IsRoot, HasSnapshots, IntoItself, Nested}
use Rattle.hs_plain.specs.Asked.{refuse_if}
use Rattle.hs_plain.specs.Tree.{node_at}
use Rattle.namenode_write.proofs.RenameTests.{err-is, walk-refused, into-refused, nested-last, test-so, taken-so}
use Rattle.namenode_write.proofs.rows.rename_refusals.may_move.Goals as goal

pub returns-in_err-id : goal.returns-in_err-id
returns-in_err-id c state all =
    err-is _ c.in_err-id.field-0.0 c.from_residual.ensures.1
    ∙ sym (walk-refused state c.args.old.now c.args.new.now c.in_err-id.field-0.0 (sym (c.walk_both.ensures.walk c.args.snaps.now state all) ∙ c.in_err-id.was))

pub returns-in_err-refuse_if-4 : goal.returns-in_err-refuse_if-4
returns-in_err-refuse_if-4 c state all =
    let old = c.args.old.now in
    let new = c.args.new.now in
    let at = c.in_ok-id.ensures.there c.args.snaps.now state all in
    let taken = taken-so (node_at state.tree new) _ _ (c.node_there.ensures c.args.snaps.now state all) c.is_some-taken.ensures in
    err-is _ c.in_err-refuse_if-4.field-0.0 c.from_residual-in_err-refuse_if-4.ensures.1
    ∙ sym (into-refused state old new c.in_ok-id.id (sym (c.walk_both.ensures.walk c.args.snaps.now state all) ∙ c.in_ok-id.was)
    c.in_ok-refuse_if.field-0 (test-so _ _ Exists _ _ taken c.refuse_if.ensures c.in_ok-refuse_if.was)
    c.in_ok-refuse_if-2.field-0 (test-so _ _ IsRoot _ _ c.is_root_path.ensures c.refuse_if-2.ensures c.in_ok-refuse_if-2.was)
    c.in_ok-refuse_if-3.field-0 (test-so _ _ HasSnapshots _ _ (c.holds_snapshots-held.ensures state all old at) c.refuse_if-3.ensures c.in_ok-refuse_if-3.was)
    c.in_err-refuse_if-4.field-0.0 (test-so _ _ IntoItself _ _ c.is_above.ensures c.refuse_if-4.ensures c.in_err-refuse_if-4.was))

pub returns : goal.returns
returns c state all =
    let old = c.args.old.now in
    let new = c.args.new.now in
    let at = c.in_ok-id.ensures.there c.args.snaps.now state all in
    let taken = taken-so (node_at state.tree new) _ _ (c.node_there.ensures c.args.snaps.now state all) c.is_some-taken.ensures in
    c.refuse_if-5.ensures ∙ ap (λ b. refuse_if b Nested) (c.would_nest-nested.ensures state all old at)
    ∙ nested-last state old new c.in_ok-id.id (sym (c.walk_both.ensures.walk c.args.snaps.now state all) ∙ c.in_ok-id.was)
    c.in_ok-refuse_if.field-0 (test-so _ _ Exists _ _ taken c.refuse_if.ensures c.in_ok-refuse_if.was)
    c.in_ok-refuse_if-2.field-0 (test-so _ _ IsRoot _ _ c.is_root_path.ensures c.refuse_if-2.ensures c.in_ok-refuse_if-2.was)
    c.in_ok-refuse_if-3.field-0 (test-so _ _ HasSnapshots _ _ (c.holds_snapshots-held.ensures state all old at) c.refuse_if-3.ensures c.in_ok-refuse_if-3.was)
    c.in_ok-refuse_if-4.field-0 (test-so _ _ IntoItself _ _ c.is_above.ensures c.refuse_if-4.ensures c.in_ok-refuse_if-4.was)
