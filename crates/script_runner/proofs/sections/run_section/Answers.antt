use Rattle.std.specs.Prelude.{is_some}
use Rattle.std.proofs.Common.{refl, ap, ◌∙◌}
use Rattle.hs_types.specs.declared.ids.CallerId.{CallerId}
use Rattle.script_runner.specs.Keeping.{kept_of}
use Rattle.script_runner.specs.Nodes.{world}
use Rattle.script_runner.proofs.Lines.{section_step, section_end, past_end, section_starts}
use Rattle.script_runner.proofs.NodeRuns.{stays_first, stays_then}
use Rattle.script_runner.proofs.sections.run_section.Goals as goal

pub loop-next-init : goal.loop-next-init
loop-next-init g c = record {
  ran =
      section_starts (is_some (g.B.BlockStore.blocks c.args.nodes.now.source.store)) (is_some (g.B.BlockStore.blocks c.args.nodes.now.target.store)) c.args.page c.args.client.now.caller.0 c.args.section
      (world c.args.nodes.now.source.entries c.args.nodes.now.target.entries c.args.client.now) (kept_of c.args.page c.args.client.now) c.args.rest.now.items c.next_in-next.new.rest.items c.next_in-next.result c.new-items.result.items c.new-items.ensures.items c.next_in-next.ensures.taken;
  front = c.next_in-next.ensures.front;
  caller = refl;
  source_stays = stays_first g.B.BlockStore.blocks g.B.BlockStore.faults c.args.nodes.now.source;
  target_stays = stays_first g.B.BlockStore.blocks g.B.BlockStore.faults c.args.nodes.now.target;
}

pub run_line-requires-clause-usual_source : goal.run_line-requires-clause-usual_source
run_line-requires-clause-usual_source g c = c.loop-next.invariant.source_stays.limit ∙ c.requires.usual_source

pub run_line-requires-clause-usual_target : goal.run_line-requires-clause-usual_target
run_line-requires-clause-usual_target g c = c.loop-next.invariant.target_stays.limit ∙ c.requires.usual_target

pub loop-next-preserved : goal.loop-next-preserved
loop-next-preserved g c = record {
  ran =
      section_step (is_some (g.B.BlockStore.blocks c.loop-next.nodes.source.store)) (is_some (g.B.BlockStore.blocks c.loop-next.nodes.target.store)) (is_some (g.B.BlockStore.blocks c.args.nodes.now.source.store)) (is_some (g.B.BlockStore.blocks c.args.nodes.now.target.store))
      c.args.page c.args.client.now.caller.0 c.loop-next.client.caller.0 c.args.section (world c.args.nodes.now.source.entries c.args.nodes.now.target.entries c.args.client.now) (world c.loop-next.nodes.source.entries c.loop-next.nodes.target.entries c.loop-next.client) (world c.run_line.new.nodes.source.entries c.run_line.new.nodes.target.entries c.run_line.new.client)
      (kept_of c.args.page c.args.client.now) (kept_of c.args.page c.loop-next.client) (kept_of c.args.page c.run_line.new.client)
      c.args.rest.now.items c.loop-next.rest.items c.next_in-next-in-Some.new.rest.items c.loop-next.next c.next_in-next-in-Some.result c.loop-next.items.items c.push.new.self.items c.in-Some.line c.in_ok-item.item
      c.loop-next.invariant.source_stays.tells c.loop-next.invariant.target_stays.tells (ap (λ (k : CallerId). k.0) c.loop-next.invariant.caller) c.in-Some.is c.loop-next.invariant.front c.next_in-next-in-Some.ensures.taken c.in_ok-push.ensures.items
      c.loop-next.invariant.ran c.in_ok-item.ensures.ran;
  front = c.next_in-next-in-Some.ensures.front;
  caller = c.run_line.ensures.caller ∙ c.loop-next.invariant.caller;
  source_stays = stays_then g.B.BlockStore.blocks g.B.BlockStore.faults c.args.nodes.now.source c.loop-next.nodes.source c.run_line.new.nodes.source c.loop-next.invariant.source_stays c.in_ok-item.ensures.source_stays;
  target_stays = stays_then g.B.BlockStore.blocks g.B.BlockStore.faults c.args.nodes.now.target c.loop-next.nodes.target c.run_line.new.nodes.target c.loop-next.invariant.target_stays c.in_ok-item.ensures.target_stays;
}

pub returns-clause-ran : goal.returns-clause-ran
returns-clause-ran g c =
    section_end (is_some (g.B.BlockStore.blocks c.args.nodes.now.source.store)) (is_some (g.B.BlockStore.blocks c.args.nodes.now.target.store)) c.args.page c.args.client.now.caller.0 c.args.section
    (world c.args.nodes.now.source.entries c.args.nodes.now.target.entries c.args.client.now) (world c.loop-next.nodes.source.entries c.loop-next.nodes.target.entries c.loop-next.client) (kept_of c.args.page c.args.client.now) (kept_of c.args.page c.loop-next.client)
    c.args.rest.now.items c.loop-next.rest.items c.loop-next.next c.loop-next.items.items c.of.result c.in_default.is c.of.ensures c.loop-next.invariant.ran

pub returns-clause-past : goal.returns-clause-past
returns-clause-past g c = past_end c.args.section c.loop-next.rest.items c.loop-next.next c.in_default.is c.loop-next.invariant.front
