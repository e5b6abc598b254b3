use Rattle.std.proofs.Common.{Bor, ap, ◌∙◌}
use Rattle.std.specs.Option.{option_map}
use Rattle.std.specs.FinMap.Entries.{find}
use Rattle.hs_types.specs.Names.{Names}
use Rattle.hs_plain.specs.Tree.{path_cmp}
use Rattle.distcp_plan.specs.inside.Leads.{lead_table}
use Rattle.distcp_plan.proofs.Tables.{find-shown}
use Rattle.distcp_plan.proofs.moves.lead_at.Goals as goal

pub returns : goal.returns
returns c =
    ap (option_map (λ (target : Bor Names). target.now)) (c.copied.ensures ∙ c.get.ensures.value)
    ∙ find-shown c.moves.inside.leads.entries c.args.source.now
    ∙ ap (find path_cmp c.args.source.now) c.moves.invariant.0
    ∙ ap (λ lines. find path_cmp c.args.source.now (lead_table lines)) c.moves.view_is
