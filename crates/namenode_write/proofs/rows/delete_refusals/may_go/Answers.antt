use Rattle.std.proofs.Common.{sym, ap, ◌∙◌}
use Rattle.hs_types.specs.declared.refusal.Refusal.TheVariants.{IsRoot, NotEmpty, HasSnapshots}
use Rattle.hs_plain.specs.Asked.{refuse_if}
use Rattle.namenode_write.proofs.DeleteTests.{err_is, go-unwalked, go-spared, go-held}
use Rattle.namenode_write.proofs.rows.delete_refusals.may_go.Goals as goal

pub returns-in_err-id : goal.returns-in_err-id
returns-in_err-id c = λ state all.
    err_is c.from_residual.result c.in_err-id.field-0.0 c.from_residual.ensures.1
    ∙ sym (go-unwalked state c.args.path.now c.args.recursive c.in_err-id.field-0.0 (sym (c.live.ensures.walk c.args.snaps.now state all) ∙ c.in_err-id.was))

pub returns-in_err-refuse_if-2 : goal.returns-in_err-refuse_if-2
returns-in_err-refuse_if-2 c = λ state all.
    err_is c.from_residual-in_err-refuse_if-2.result c.in_err-refuse_if-2.field-0.0 c.from_residual-in_err-refuse_if-2.ensures.1
    ∙ sym (go-spared state c.args.path.now c.args.recursive c.in_ok-id.id (sym (c.live.ensures.walk c.args.snaps.now state all) ∙ c.in_ok-id.was) c.in_ok-refuse_if.field-0
    (ap (λ b. refuse_if b IsRoot) (sym c.is_root_path.ensures) ∙ sym c.refuse_if.ensures ∙ c.in_ok-refuse_if.was) c.in_err-refuse_if-2.field-0.0
    (ap (λ b. refuse_if b NotEmpty) (sym (c.spares_children-spares.ensures c.args.snaps.now state all c.args.path.now (c.in_ok-id.ensures.there c.args.snaps.now state all))) ∙ sym c.refuse_if-2.ensures ∙ c.in_err-refuse_if-2.was))

pub returns : goal.returns
returns c = λ state all.
    c.refuse_if-3.ensures ∙ ap (λ b. refuse_if b HasSnapshots) (c.holds_snapshots.ensures state all c.args.path.now (c.in_ok-id.ensures.there c.args.snaps.now state all))
    ∙ sym (go-held state c.args.path.now c.args.recursive c.in_ok-id.id (sym (c.live.ensures.walk c.args.snaps.now state all) ∙ c.in_ok-id.was) c.in_ok-refuse_if.field-0
    (ap (λ b. refuse_if b IsRoot) (sym c.is_root_path.ensures) ∙ sym c.refuse_if.ensures ∙ c.in_ok-refuse_if.was) c.in_ok-refuse_if-2.field-0
    (ap (λ b. refuse_if b NotEmpty) (sym (c.spares_children-spares.ensures c.args.snaps.now state all c.args.path.now (c.in_ok-id.ensures.there c.args.snaps.now state all))) ∙ sym c.refuse_if-2.ensures ∙ c.in_ok-refuse_if-2.was))
