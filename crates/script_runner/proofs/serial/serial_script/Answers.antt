use Rattle.std.proofs.Common.{◌≤◌, ℕ, List, length, ap, sym, subst, ◌∙◌}
use Rattle.std.specs.Prelude.{is_some}
use Rattle.hs_types.specs.declared.journal.Entry.{Entry}
use Rattle.namenode_write.specs.Faulted.{fault_count}
use Rattle.namenode_write.specs.FaultCounts.{RisesAtMost}
use Rattle.script_runner.proofs.WholeRuns.{whole_run, few_faulted}
use Rattle.script_runner.proofs.serial.serial_script.Goals as goal

pub returns-clause-run : goal.returns-clause-run
returns-clause-run g c =
    whole_run (is_some (g.B.BlockStore.blocks c.in_ok-source.source.store)) (is_some (g.B.BlockStore.blocks c.in_ok-target.target.store)) (is_some (g.B.BlockStore.blocks c.args.source_blocks)) (is_some (g.B.BlockStore.blocks c.args.target_blocks))
    c.args.options.now.page c.args.script.clients c.from_vec-rest.result.items c.args.script.lines c.run_sections.new.nodes.source.entries c.run_sections.new.nodes.target.entries c.end-source_journal.result.0 c.end-target_journal.result.0
    c.in_ok-logs.logs c.in_ok-source_end.source_end c.in_ok-target_end.target_end
    (ap (λ (store : g.row.B.Denot). is_some (g.B.BlockStore.blocks store)) c.in_ok-source.ensures.store) (ap (λ (store : g.row.B.Denot). is_some (g.B.BlockStore.blocks store)) c.in_ok-target.ensures.store)
    (subst (λ (n : ℕ). length c.run_sections.new.nodes.source.entries ≤ n) (c.in_ok-logs.ensures.source_stays.limit ∙ c.in_ok-source.ensures.limit ∙ c.usual.ensures) c.end-source_journal.ensures.within)
    (subst (λ (n : ℕ). length c.run_sections.new.nodes.target.entries ≤ n) (c.in_ok-logs.ensures.target_stays.limit ∙ c.in_ok-target.ensures.limit ∙ c.usual-2.ensures) c.end-target_journal.ensures.within)
    (c.from_vec-rest.ensures.items ∙ c.into_lines.ensures) c.end-source_journal.ensures.entries c.end-target_journal.ensures.entries c.end-source_journal.ensures.proper c.end-target_journal.ensures.proper
    c.in_ok-source_end.ensures c.in_ok-target_end.ensures c.in_ok-logs.ensures.ran

pub returns-clause-source_faulted : goal.returns-clause-source_faulted
returns-clause-source_faulted g c = λ most rises.
    subst (λ (entries : List Entry). fault_count entries ≤ most) (sym c.end-source_journal.ensures.entries)
    (few_faulted g.B.BlockStore.faults c.in_ok-source.source c.run_sections.new.nodes.source most c.in_ok-source.ensures.entries c.in_ok-logs.ensures.source_stays.counted
    (subst (λ (store : g.row.B.Denot). RisesAtMost most g.B.BlockStore.faults (g.B.BlockStore.faults store)) (sym c.in_ok-source.ensures.store) rises))

pub returns-clause-target_faulted : goal.returns-clause-target_faulted
returns-clause-target_faulted g c = λ most rises.
    subst (λ (entries : List Entry). fault_count entries ≤ most) (sym c.end-target_journal.ensures.entries)
    (few_faulted g.B.BlockStore.faults c.in_ok-target.target c.run_sections.new.nodes.target most c.in_ok-target.ensures.entries c.in_ok-logs.ensures.target_stays.counted
    (subst (λ (store : g.row.B.Denot). RisesAtMost most g.B.BlockStore.faults (g.B.BlockStore.faults store)) (sym c.in_ok-target.ensures.store) rises))
