use Rattle.namenode_lock.specs.NodeLinks.{known_of}
use Rattle.script_runner.specs.Commands.{IsAskDone}
use Rattle.script_runner.specs.Nodes.{StaysNode}
use Rattle.script_runner.proofs.Asking.{if_ok, on_ok}
use Rattle.script_runner.proofs.NodeRuns.{asked_run, asked_stays}
use Rattle.script_runner.proofs.nodes.ask_alone.Goals as goal

pub returns-clause-ran : goal.returns-clause-ran
returns-clause-ran g c = if_ok c.ask_command.result _ _
    (λ replies asked. asked_run g.B.BlockStore.blocks g.B.BlockStore.faults c.args.link.now.caller c.ask_command.new.link.caller c.ask_command.new.link.seq c.args.link.now.node.now c.ask_command.new.link.node.now c.args.page c.args.link.now.seq c.args.ask c.args.cursors.now c.ask_command.new.cursors replies
    c.requires.usual c.ask_command.ensures.stays asked)
    c.ask_command.ensures.asked

pub returns-clause-stays : goal.returns-clause-stays
returns-clause-stays g c = on_ok c.ask_command.result (IsAskDone c.args.page c.args.ask (known_of g.B.BlockStore.blocks c.args.link.now.caller c.args.link.now.seq c.args.link.now.node.now) (known_of g.B.BlockStore.blocks c.ask_command.new.link.caller c.ask_command.new.link.seq c.ask_command.new.link.node.now) c.args.cursors.now c.ask_command.new.cursors) (StaysNode g.B.BlockStore.blocks g.B.BlockStore.faults c.args.link.now.node.now c.ask_command.new.link.node.now)
    (λ replies asked. asked_stays g.B.BlockStore.blocks g.B.BlockStore.faults c.args.link.now.caller c.ask_command.new.link.caller c.ask_command.new.link.seq c.args.link.now.node.now c.ask_command.new.link.node.now c.args.page c.args.link.now.seq c.args.ask c.args.cursors.now c.ask_command.new.cursors replies
    c.ask_command.ensures.stays asked)
    c.ask_command.ensures.asked
