use Rattle.std.proofs.Common.{sym, ap, ◌∙◌}
use Rattle.hs_types.specs.Names.{Names}
use Rattle.hs_plain.specs.declared.resolve.AskFault.TheVariants.{Refused}
use Rattle.hs_plain.specs.Tree.{walk}
use Rattle.hs_plain.specs.Modifying.{set_mode_at}
use Rattle.path_resolver.specs.Live.{id_walked}
use Rattle.namenode_write.proofs.RowTests.{match_err, set_mode_refused}
use Rattle.namenode_write.proofs.rows.refusals.set_mode_at.Goals as goal

pub returns-in_err-live : goal.returns-in_err-live
returns-in_err-live c snaps state all =
    match_err _ (Refused c.in_err-live.field-0.0) _ (set_mode_at state c.args.text.now) c.from_residual-in_err-live.ensures.1
    (set_mode_refused state c.args.text.now c.in_ok-path.path c.in_ok-path.ensures c.in_err-live.field-0.0
    (ap (λ (p : Names). id_walked (walk state.tree p)) (sym c.items.ensures) ∙ sym (c.live.ensures.walk snaps state all) ∙ c.in_err-live.was))
