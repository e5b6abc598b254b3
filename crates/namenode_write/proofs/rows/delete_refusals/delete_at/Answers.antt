use Rattle.std.proofs.Common.{sym, ap, ◌∙◌}
use Rattle.hs_types.specs.Names.{Names}
use Rattle.hs_plain.specs.declared.resolve.AskFault.TheVariants.{Refused}
use Rattle.hs_plain.specs.Asked.{Asked, ◌>>=◌}
use Rattle.hs_plain.specs.Modifying.{delete_at}
use Rattle.namenode_write.specs.GoneDirs.{may_go}
use Rattle.namenode_write.proofs.DeleteTests.{okay, delete-tested}
use Rattle.namenode_write.proofs.RowTests.{match_err}
use Rattle.namenode_write.proofs.rows.delete_refusals.delete_at.Goals as goal

pub returns-in_err-may_go : goal.returns-in_err-may_go
returns-in_err-may_go c = λ state all.
    match_err _ (Refused c.in_err-may_go.field-0.0) _ (delete_at state c.args.text.now c.args.recursive) c.from_residual-in_err-may_go.ensures.1
    (delete-tested state c.args.text.now c.args.recursive c.in_ok-path.path c.in_ok-path.ensures
    ∙ ap (λ (a : Asked (Unit {0})). a >>= λ _. okay c.in_ok-path.path) (ap (λ (p : Names). may_go state p c.args.recursive) (sym c.items.ensures) ∙ sym (c.may_go.ensures state all) ∙ c.in_err-may_go.was))

pub returns : goal.returns
returns c = λ state all.
    delete-tested state c.args.text.now c.args.recursive c.in_ok-path.path c.in_ok-path.ensures
    ∙ ap (λ (a : Asked (Unit {0})). a >>= λ _. okay c.in_ok-path.path) (ap (λ (p : Names). may_go state p c.args.recursive) (sym c.items.ensures) ∙ sym (c.may_go.ensures state all) ∙ c.in_ok-may_go.was)
