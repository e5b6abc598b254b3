use Rattle.std.proofs.Common.{sym, ap, ◌∙◌}
use Rattle.hs_types.specs.Names.{Names}
use Rattle.hs_plain.specs.declared.resolve.AskFault.TheVariants.{Refused}
use Rattle.hs_plain.specs.Tree.{node_at, walks_above}
use Rattle.hs_plain.specs.Modifying.{takes_place_of, create_at}
use Rattle.namenode_write.proofs.RowTests.{match_err, create_refused, create_taken}
use Rattle.namenode_write.proofs.rows.refusals.create_at.Goals as goal

pub returns-in_err-walks_above : goal.returns-in_err-walks_above
returns-in_err-walks_above c snaps state all =
    match_err _ (Refused c.in_err-walks_above.field-0.0) _ (create_at state c.args.text.now c.args.over) c.from_residual-in_err-walks_above.ensures.1
    (create_refused state c.args.text.now c.in_ok-path.path c.in_ok-path.ensures c.args.over c.in_err-walks_above.field-0.0
    (ap (λ (p : Names). walks_above state.tree p) (sym c.items.ensures) ∙ sym (c.walks_above.ensures snaps state all) ∙ c.in_err-walks_above.was))

pub returns-in_err-takes_place : goal.returns-in_err-takes_place
returns-in_err-takes_place c snaps state all =
    match_err _ (Refused c.in_err-takes_place.field-0.0) _ (create_at state c.args.text.now c.args.over) c.from_residual-in_err-takes_place.ensures.1
    (create_taken state c.args.text.now c.in_ok-path.path c.in_ok-path.ensures c.args.over c.in_ok-walks_above.field-0 c.in_err-takes_place.field-0.0
    (ap (λ (p : Names). walks_above state.tree p) (sym c.items.ensures) ∙ sym (c.walks_above.ensures snaps state all) ∙ c.in_ok-walks_above.was)
    (ap (λ (p : Names). takes_place_of c.args.over (node_at state.tree p)) (sym c.items-2.ensures) ∙ sym (c.takes_place.ensures snaps state all) ∙ c.in_err-takes_place.was))
