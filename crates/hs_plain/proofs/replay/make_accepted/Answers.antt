use Rattle.std.proofs.Common.{◌≡◌, sym, ap, ◌∙◌}
use Rattle.std.specs.FinMap.Entries.{is_sorted}
use Rattle.hs_plain.specs.declared.state.State.{State}
use Rattle.hs_plain.specs.Files.{plain_files}
use Rattle.hs_plain.specs.Tree.{path_cmp}
use Rattle.hs_plain.specs.Change.{change}
use Rattle.hs_plain.proofs.Refusals.{answered_change}
use Rattle.hs_plain.proofs.ValidTrees.{sorted-change}
use Rattle.hs_plain.proofs.replay.make_accepted.Goals as goal

pub returns-then-is_answered-clause-sorted : goal.returns-then-is_answered-clause-sorted
returns-then-is_answered-clause-sorted c =
    let state = c.args.state.now in
    let call = c.args.call.now in
    let made = c.make_plain_change.ensures in
    let changed : c.make_plain_change.new.state ≡ change plain_files state call =
    answered_change plain_files state c.make_plain_change.new.state call c.make_plain_change.result (sym c.is_answered.ensures ∙ c.if-is_answered.true) made.ok made.err made.fault in
    ap (λ (s : State _). is_sorted path_cmp s.tree) changed ∙ sorted-change plain_files state call c.requires.sorted
