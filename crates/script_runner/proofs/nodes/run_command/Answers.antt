use Rattle.std.specs.Prelude.{is_some}
use Rattle.std.proofs.Common.{sym, subst}
use Rattle.script_text.specs.declared.command.Command.{Command}
use Rattle.run_output.specs.declared.ran.LogWhat.TheVariants.{Synced}
use Rattle.script_runner.specs.Keeping.{kept_of}
use Rattle.script_runner.specs.Nodes.{IsCommandDone, world}
use Rattle.script_runner.proofs.SyncSteps.{kept_still, sync_command}
use Rattle.script_runner.proofs.nodes.run_command.Goals as goal

pub returns-in-Sync-clause-ran : goal.returns-in-Sync-clause-ran
returns-in-Sync-clause-ran g c =
    let st = is_some (g.B.BlockStore.blocks c.args.nodes.now.source.store) in
    let dt = is_some (g.B.BlockStore.blocks c.args.nodes.now.target.store) in
    let old = world c.args.nodes.now.source.entries c.args.nodes.now.target.entries c.args.client.now in
    let new = world c.run_sync.new.nodes.source.entries c.run_sync.new.nodes.target.entries c.run_sync.new.client in
    let kept = kept_of c.args.page c.args.client.now in
    let now = kept_of c.args.page c.run_sync.new.client in
    subst (λ (command : Command). IsCommandDone st dt c.args.page c.args.client.now.caller.0 old new kept now command (Synced c.run_sync.result)) (sym c.in-Sync.is)
    (sync_command st dt c.args.page c.args.client.now.caller.0 old new kept now c.in-Sync.source c.in-Sync.target c.in-Sync.from c.in-Sync.to c.run_sync.result
    (kept_still c.args.page c.args.client.now c.run_sync.new.client c.run_sync.ensures.source_cursors c.run_sync.ensures.target_cursors) c.run_sync.ensures.ran)
