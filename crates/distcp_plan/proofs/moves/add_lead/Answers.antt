use Rattle.std.proofs.Common.{ap, ◌∙◌}
use Rattle.std.specs.FinMap.Entries.{put}
use Rattle.hs_plain.specs.Tree.{path_cmp}
use Rattle.distcp_plan.specs.inside.Leads.{with_lead, shown_table}
use Rattle.distcp_plan.proofs.Tables.{put-shown}
use Rattle.distcp_plan.proofs.moves.add_lead.Goals as goal

pub returns-in_ok-insert-in-Some : goal.returns-in_ok-insert-in-Some
returns-in_ok-insert-in-Some c =
    let i = c.items.ensures in
    let j = c.items-in-Some.ensures in
    let table = shown_table c.args.leads.now.entries in
    ap shown_table c.in_ok-insert-in-Some.ensures.entries
    ∙ put-shown c.args.leads.now.entries c.items.result c.items-in-Some.result
    ∙ (λ k. put path_cmp (i k) (j k) table)
    ∙ ap (λ o. with_lead c.args.line.now.path o table) c.in-Some.ensures
