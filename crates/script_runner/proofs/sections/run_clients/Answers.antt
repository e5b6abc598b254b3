use Rattle.std.specs.Prelude.{is_some}
use Rattle.std.proofs.Common.{◌+◌, refl, ◌∙◌}
use Rattle.script_text.specs.declared.script.Section.TheVariants as sections
use Rattle.script_runner.proofs.Clients.{clients_begin, clients_grow}
use Rattle.script_runner.proofs.NodeRuns.{stays_first, stays_then}
use Rattle.script_runner.proofs.Order.{section_order, client_among}
use Rattle.script_runner.proofs.sections.run_clients.Goals as goal

pub loop-index-init : goal.loop-index-init
loop-index-init g c = record {
  ran = clients_begin (is_some (g.B.BlockStore.blocks c.args.nodes.now.source.store)) (is_some (g.B.BlockStore.blocks c.args.nodes.now.target.store)) c.args.page c.args.nodes.now.source.entries c.args.nodes.now.target.entries c.args.rest.now.items c.args.logs.now.items;
  order = c.requires.order;
  source_stays = stays_first g.B.BlockStore.blocks g.B.BlockStore.faults c.args.nodes.now.source;
  target_stays = stays_first g.B.BlockStore.blocks g.B.BlockStore.faults c.args.nodes.now.target;
}

pub run_client-requires-clause-usual_source : goal.run_client-requires-clause-usual_source
run_client-requires-clause-usual_source g c = c.loop-index.invariant.source_stays.limit ∙ c.requires.usual_source

pub run_client-requires-clause-usual_target : goal.run_client-requires-clause-usual_target
run_client-requires-clause-usual_target g c = c.loop-index.invariant.target_stays.limit ∙ c.requires.usual_target

pub loop-index-preserved : goal.loop-index-preserved
loop-index-preserved g c = record {
  ran =
      clients_grow (is_some (g.B.BlockStore.blocks c.loop-index.nodes.source.store)) (is_some (g.B.BlockStore.blocks c.loop-index.nodes.target.store)) (is_some (g.B.BlockStore.blocks c.args.nodes.now.source.store)) (is_some (g.B.BlockStore.blocks c.args.nodes.now.target.store))
      c.args.page c.loop-index.index (c.loop-index.index + 1) c.args.nodes.now.source.entries c.args.nodes.now.target.entries c.loop-index.nodes.source.entries c.loop-index.nodes.target.entries c.run_client.new.nodes.source.entries c.run_client.new.nodes.target.entries
      c.args.rest.now.items c.loop-index.rest.items c.run_client.new.rest.items c.args.logs.now.items c.loop-index.logs.items c.push.new.self.items c.in_ok-log.log
      c.loop-index.invariant.source_stays.tells c.loop-index.invariant.target_stays.tells refl c.in_ok-push.ensures.items c.loop-index.invariant.ran c.in_ok-log.ensures.ran;
  order =
      section_order c.args.clients c.requires.few (sections.Client (c.loop-index.index + 1)) c.in_ok-log.ensures.ran.runs c.loop-index.rest.items c.run_client.new.rest.items
      (client_among c.args.clients c.loop-index.index c.loop-index-test.true) c.in_ok-log.ensures.ran.lines c.in_ok-log.ensures.ran.of_section c.in_ok-log.ensures.past c.loop-index.invariant.order;
  source_stays = stays_then g.B.BlockStore.blocks g.B.BlockStore.faults c.args.nodes.now.source c.loop-index.nodes.source c.run_client.new.nodes.source c.loop-index.invariant.source_stays c.in_ok-log.ensures.source_stays;
  target_stays = stays_then g.B.BlockStore.blocks g.B.BlockStore.faults c.args.nodes.now.target c.loop-index.nodes.target c.run_client.new.nodes.target c.loop-index.invariant.target_stays c.in_ok-log.ensures.target_stays;
}
