use Rattle.std.proofs.Common.{◌≡◌, ◌+◌, true}
use Rattle.std.specs.Prelude.{is_some}
use Rattle.script_text.specs.Order.{are_ordered}
use Rattle.script_runner.specs.Nodes.{StaysNode}
use Rattle.script_runner.specs.Sections.{AreClientsTo}
use Rattle.script_runner.proofs.sections.run_clients.Given as goal

-- the clients so far were run
abbrev pub invariant-loop-index : goal.invariant-loop-index
invariant-loop-index g l = record {
  ran : AreClientsTo (is_some (g.B.BlockStore.blocks l.initial.nodes.source.store)) (is_some (g.B.BlockStore.blocks l.initial.nodes.target.store)) l.page l.index l.initial.nodes.source.entries l.initial.nodes.target.entries l.nodes.source.entries l.nodes.target.entries l.initial.rest.items l.rest.items l.initial.logs.items l.logs.items;
  order : are_ordered l.fn.clients (l.index + 1) l.rest.items ≡ true;
  source_stays : StaysNode g.B.BlockStore.blocks g.B.BlockStore.faults l.initial.nodes.source l.nodes.source;
  target_stays : StaysNode g.B.BlockStore.blocks g.B.BlockStore.faults l.initial.nodes.target l.nodes.target;
}
