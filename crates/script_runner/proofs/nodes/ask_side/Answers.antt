use Rattle.std.specs.Prelude.{is_some}
use Rattle.script_runner.proofs.NodeRuns.{source_logged, target_logged}
use Rattle.script_runner.proofs.nodes.ask_side.Goals as goal

pub returns-in_ok-list-in-Source-clause-ran : goal.returns-in_ok-list-in-Source-clause-ran
returns-in_ok-list-in-Source-clause-ran g c =
    source_logged (is_some (g.B.BlockStore.blocks c.args.nodes.now.source.store)) (is_some (g.B.BlockStore.blocks c.args.nodes.now.target.store)) c.args.page c.args.client.now.caller.0 c.args.side c.args.ask
    c.args.nodes.now.source.entries c.ask_node.new.node.entries c.args.nodes.now.target.entries c.args.client.now c.ask_node.new.session c.in_ok-list-in-Source.list c.what_of.result
    c.in-Source.is c.what_of.ensures c.in_ok-list-in-Source.ensures.ran

pub returns-in_ok-list-in-Target-clause-ran : goal.returns-in_ok-list-in-Target-clause-ran
returns-in_ok-list-in-Target-clause-ran g c =
    target_logged (is_some (g.B.BlockStore.blocks c.args.nodes.now.source.store)) (is_some (g.B.BlockStore.blocks c.args.nodes.now.target.store)) c.args.page c.args.client.now.caller.0 c.args.side c.args.ask
    c.args.nodes.now.target.entries c.ask_node-in-Target.new.node.entries c.args.nodes.now.source.entries c.args.client.now c.ask_node-in-Target.new.session c.in_ok-list-in-Target.list c.what_of-in-Target.result
    c.in-Target.is c.what_of-in-Target.ensures c.in_ok-list-in-Target.ensures.ran
