use Rattle.std.proofs.Common.{◌≡◌, ◌++◌, length}
use Rattle.std.specs.Prelude.{is_some}
use Rattle.std.specs.Option.{option_to_list}
use Rattle.script_runner.specs.Keeping.{kept_of}
use Rattle.script_runner.specs.Nodes.{world, StaysNode}
use Rattle.script_runner.specs.Sections.{IsSectionRun, IsFront}
use Rattle.script_runner.proofs.sections.run_section.Given as goal

-- the lines so far were run, and the next one was taken
abbrev pub invariant-loop-next : goal.invariant-loop-next
invariant-loop-next g l =
    let left = option_to_list l.next ++ l.rest.items in
    record {
      ran : IsSectionRun (is_some (g.B.BlockStore.blocks l.initial.nodes.source.store)) (is_some (g.B.BlockStore.blocks l.initial.nodes.target.store)) l.page l.initial.client.caller.0 l.fn.section (world l.initial.nodes.source.entries l.initial.nodes.target.entries l.initial.client) (world l.nodes.source.entries l.nodes.target.entries l.client) (kept_of l.page l.initial.client) (kept_of l.page l.client) l.fn.rest.items left l.items.items;
      front : IsFront l.fn.section l.next l.rest.items;
      caller : l.client.caller ≡ l.initial.client.caller;
      source_stays : StaysNode g.B.BlockStore.blocks g.B.BlockStore.faults l.initial.nodes.source l.nodes.source;
      target_stays : StaysNode g.B.BlockStore.blocks g.B.BlockStore.faults l.initial.nodes.target l.nodes.target;
    }

abbrev pub decreases-loop-next : goal.decreases-loop-next
decreases-loop-next g l = length (option_to_list l.next ++ l.rest.items)
