use Rattle.std.specs.Prelude.{is_some}
use Rattle.std.proofs.Common.{List, [], ◌∷◌, ◌++◌, refl, ap, ◌∙◌}
use Rattle.hs_types.specs.declared.ids.CallerId.{CallerId}
use Rattle.script_text.specs.declared.script.Section.TheVariants as sections
use Rattle.run_output.specs.declared.ran.ClientLog.{ClientLog}
use Rattle.script_runner.specs.declared.client.Client.{Client}
use Rattle.script_runner.specs.Keeping.{kept_of}
use Rattle.script_runner.specs.Nodes.{world}
use Rattle.script_runner.proofs.NodeRuns.{stays_then}
use Rattle.script_runner.proofs.Order.{section_order, finish_order, none_left}
use Rattle.script_runner.proofs.WholeRuns.{fresh_is, none_first, sections_ran}
use Rattle.script_runner.proofs.sections.run_sections.Goals as goal

pub run_clients-requires-clause-order : goal.run_clients-requires-clause-order
run_clients-requires-clause-order g c =
    section_order c.args.clients c.requires.few sections.Setup c.in_ok-setup.ensures.ran.runs c.args.rest.now.items c.run_section.new.rest.items
    refl c.in_ok-setup.ensures.ran.lines c.in_ok-setup.ensures.ran.of_section c.in_ok-setup.ensures.past c.requires.order

pub run_clients-requires-clause-usual_source : goal.run_clients-requires-clause-usual_source
run_clients-requires-clause-usual_source g c = c.in_ok-setup.ensures.source_stays.limit ∙ c.requires.usual_source

pub run_clients-requires-clause-usual_target : goal.run_clients-requires-clause-usual_target
run_clients-requires-clause-usual_target g c = c.in_ok-setup.ensures.target_stays.limit ∙ c.requires.usual_target

pub run_section-requires-2-clause-usual_source : goal.run_section-requires-2-clause-usual_source
run_section-requires-2-clause-usual_source g c = c.in_ok-run_clients.ensures.source_stays.limit ∙ c.in_ok-setup.ensures.source_stays.limit ∙ c.requires.usual_source

pub run_section-requires-2-clause-usual_target : goal.run_section-requires-2-clause-usual_target
run_section-requires-2-clause-usual_target g c = c.in_ok-run_clients.ensures.target_stays.limit ∙ c.in_ok-setup.ensures.target_stays.limit ∙ c.requires.usual_target

pub returns-clause-ran : goal.returns-clause-ran
returns-clause-ran g c =
    sections_ran (is_some (g.B.BlockStore.blocks c.args.nodes.now.source.store)) (is_some (g.B.BlockStore.blocks c.args.nodes.now.target.store))
    (is_some (g.B.BlockStore.blocks c.run_section.new.nodes.source.store)) (is_some (g.B.BlockStore.blocks c.run_section.new.nodes.target.store))
    (is_some (g.B.BlockStore.blocks c.run_clients.new.nodes.source.store)) (is_some (g.B.BlockStore.blocks c.run_clients.new.nodes.target.store))
    c.args.page c.args.clients c.new-client.result.caller.0 c.run_section.new.client.caller.0 c.run_section.new.client.source.calls c.run_section.new.client.target.calls c.run_section-2.new.client.source.calls c.run_section-2.new.client.target.calls
    c.run_section.new.nodes.source.entries c.run_section.new.nodes.target.entries c.run_clients.new.nodes.source.entries c.run_clients.new.nodes.target.entries c.run_section-2.new.nodes.source.entries c.run_section-2.new.nodes.target.entries
    (world c.args.nodes.now.source.entries c.args.nodes.now.target.entries c.new-client.result)
    (kept_of c.args.page c.new-client.result) (kept_of c.args.page c.run_section.new.client) (kept_of c.args.page c.run_section.new.client) (kept_of c.args.page c.run_section-2.new.client)
    c.args.rest.now.items c.run_section.new.rest.items c.run_clients.new.rest.items c.run_section-2.new.rest.items
    c.in_ok-setup.setup c.in_ok-finish.finish c.log_of.result c.log_of-2.result c.push.new.self.items c.run_clients.new.logs.items c.of.result
    c.in_ok-setup.ensures.source_stays.tells c.in_ok-setup.ensures.target_stays.tells (c.in_ok-run_clients.ensures.source_stays.tells ∙ c.in_ok-setup.ensures.source_stays.tells) (c.in_ok-run_clients.ensures.target_stays.tells ∙ c.in_ok-setup.ensures.target_stays.tells)
    (ap (λ (k : Client). k.caller.0) c.new-client.ensures) (ap (λ (k : CallerId). k.0) c.run_section.ensures.caller ∙ ap (λ (k : Client). k.caller.0) c.new-client.ensures)
    (fresh_is c.args.nodes.now.source.entries c.args.nodes.now.target.entries c.new-client.result (record { 0 = 0 }) c.requires.new_source c.requires.new_target c.new-client.ensures)
    (none_first c.args.page c.new-client.result (record { 0 = 0 }) c.new-client.ensures) refl
    c.in_ok-setup.ensures.ran c.in_ok-run_clients.ensures.ran c.in_ok-finish.ensures.ran
    (none_left c.args.clients c.requires.few c.run_section-2.new.rest.items
    (section_order c.args.clients c.requires.few sections.Finish c.in_ok-finish.ensures.ran.runs c.run_clients.new.rest.items c.run_section-2.new.rest.items
    refl c.in_ok-finish.ensures.ran.lines c.in_ok-finish.ensures.ran.of_section c.in_ok-finish.ensures.past (finish_order c.args.clients c.run_clients.new.rest.items c.in_ok-run_clients.ensures.order)))
    (c.in_ok-push.ensures.items ∙ ap (λ (xs : List ClientLog). xs ++ c.log_of.result ∷ []) c.new-logs.ensures.items)
    (c.of.ensures ∙ c.in_ok-push-2.ensures.items) c.log_of.ensures c.log_of-2.ensures

pub returns-clause-source_stays : goal.returns-clause-source_stays
returns-clause-source_stays g c =
    stays_then g.B.BlockStore.blocks g.B.BlockStore.faults c.args.nodes.now.source c.run_section.new.nodes.source c.run_section-2.new.nodes.source c.in_ok-setup.ensures.source_stays
    (stays_then g.B.BlockStore.blocks g.B.BlockStore.faults c.run_section.new.nodes.source c.run_clients.new.nodes.source c.run_section-2.new.nodes.source c.in_ok-run_clients.ensures.source_stays c.in_ok-finish.ensures.source_stays)

pub returns-clause-target_stays : goal.returns-clause-target_stays
returns-clause-target_stays g c =
    stays_then g.B.BlockStore.blocks g.B.BlockStore.faults c.args.nodes.now.target c.run_section.new.nodes.target c.run_section-2.new.nodes.target c.in_ok-setup.ensures.target_stays
    (stays_then g.B.BlockStore.blocks g.B.BlockStore.faults c.run_section.new.nodes.target c.run_clients.new.nodes.target c.run_section-2.new.nodes.target c.in_ok-run_clients.ensures.target_stays c.in_ok-finish.ensures.target_stays)
