use Rattle.std.specs.Prelude.{is_some}
use Rattle.std.proofs.Common.{refl, ap}
use Rattle.script_runner.specs.declared.client.Client.{Client}
use Rattle.script_runner.specs.Keeping.{kept_of}
use Rattle.script_runner.specs.Nodes.{world}
use Rattle.script_runner.proofs.Clients.{client_ran}
use Rattle.script_runner.proofs.WholeRuns.{none_first}
use Rattle.script_runner.proofs.sections.run_client.Goals as goal

pub returns-clause-ran : goal.returns-clause-ran
returns-clause-ran g c =
    client_ran (is_some (g.B.BlockStore.blocks c.args.nodes.now.source.store)) (is_some (g.B.BlockStore.blocks c.args.nodes.now.target.store)) c.args.page c.args.number c.new-client.result.caller.0
    c.args.nodes.now.source.entries c.args.nodes.now.target.entries c.run_section.new.nodes.source.entries c.run_section.new.nodes.target.entries
    (world c.args.nodes.now.source.entries c.args.nodes.now.target.entries c.new-client.result) (world c.run_section.new.nodes.source.entries c.run_section.new.nodes.target.entries c.run_section.new.client) (kept_of c.args.page c.new-client.result) (kept_of c.args.page c.run_section.new.client)
    c.args.rest.now.items c.run_section.new.rest.items c.in_ok-items.items c.log_of.result
    (ap (λ (k : Client). k.caller.0) c.new-client.ensures) (ap (λ (k : Client). world c.args.nodes.now.source.entries c.args.nodes.now.target.entries k) c.new-client.ensures) (none_first c.args.page c.new-client.result (record { 0 = c.args.number }) c.new-client.ensures) refl refl c.log_of.ensures c.in_ok-items.ensures.ran
