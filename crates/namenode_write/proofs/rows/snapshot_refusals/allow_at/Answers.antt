use Rattle.std.proofs.Common.{ap, ◌∙◌}
use Rattle.hs_types.specs.Names.{Names}
use Rattle.hs_types.specs.declared.refusal.Refusal.TheVariants.{Nested}
use Rattle.hs_plain.specs.declared.resolve.AskFault.TheVariants.{Refused}
use Rattle.hs_plain.specs.Asked.{refuse_if}
use Rattle.hs_plain.specs.Tree.{node_at}
use Rattle.hs_plain.specs.State.{meets_snapshottable}
use Rattle.hs_plain.specs.Snapshotting.{directory_at, allow_at}
use Rattle.inode_table.specs.Reads.{id_of}
use Rattle.namenode_write.proofs.Causes.{fault-then}
use Rattle.namenode_write.proofs.RowTests.{match_err}
use Rattle.namenode_write.proofs.SnapTests.{then-ok, refuse-told, dir-there, allow-is}
use Rattle.namenode_write.proofs.rows.snapshot_refusals.allow_at.Goals as goal

pub returns-in_err-path : goal.returns-in_err-path
returns-in_err-path c = λ state all. match_err c.from_residual.result c.in_err-path.field-0.0 _ (allow_at state c.args.text.now) c.from_residual.ensures.1
    (fault-then (directory_at state c.args.text.now) _ c.in_err-path.field-0.0 (c.in_err-path.ensures c.args.snaps.now state all))

pub returns-in_err-refuse_if : goal.returns-in_err-refuse_if
returns-in_err-refuse_if c = λ state all.
    let found = c.in_ok-path.ensures c.args.snaps.now state all in
    let at = ap (λ (p : Names). id_of (node_at state.tree p)) c.items.ensures ∙ dir-there state c.args.text.now c.in_ok-path.path c.in_ok-path.id found in
    let meets = c.meets_snapshottable-nested.ensures state all at ∙ ap (meets_snapshottable state) c.items.ensures in
    match_err c.from_residual-in_err-refuse_if.result (Refused c.in_err-refuse_if.field-0.0) _ (allow_at state c.args.text.now) c.from_residual-in_err-refuse_if.ensures.1
    (allow-is state c.args.text.now c.in_ok-path.path c.in_ok-path.id found
    ∙ fault-then (refuse_if (meets_snapshottable state c.in_ok-path.path) Nested) _ (Refused c.in_err-refuse_if.field-0.0) (refuse-told _ _ Nested c.refuse_if.result c.refuse_if.ensures meets ∙ c.in_err-refuse_if.was))

pub returns : goal.returns
returns c = λ state all.
    let found = c.in_ok-path.ensures c.args.snaps.now state all in
    let at = ap (λ (p : Names). id_of (node_at state.tree p)) c.items.ensures ∙ dir-there state c.args.text.now c.in_ok-path.path c.in_ok-path.id found in
    let meets = c.meets_snapshottable-nested.ensures state all at ∙ ap (meets_snapshottable state) c.items.ensures in
    allow-is state c.args.text.now c.in_ok-path.path c.in_ok-path.id found
    ∙ then-ok (refuse_if (meets_snapshottable state c.in_ok-path.path) Nested) _ c.in_ok-refuse_if.field-0 (refuse-told _ _ Nested c.refuse_if.result c.refuse_if.ensures meets ∙ c.in_ok-refuse_if.was)
