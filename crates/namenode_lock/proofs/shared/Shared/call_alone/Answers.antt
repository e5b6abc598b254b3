use Rattle.std.proofs.Common.{rules, ◌≡◌, ℕ, sym, ◌∙◌, subst, refl}
use Rattle.std.proofs.lemmas.Option.{same_Some}
use Rattle.turn_lock.specs.Histories.{AddsOnlyBy}
use Rattle.namenode_lock.proofs.Passing.{passed, counted, step_kept, step_adds, alone_called}
use Rattle.namenode_lock.proofs.shared.Shared.call_alone.Goals as goal

pub change_alone-requires-clause-kept : goal.change_alone-requires-clause-kept
change_alone-requires-clause-kept g c = λ x w y may does.
    (let d = does c.args.call refl in
    step_kept g.B.BlockStore.blocks g.B.BlockStore.greatest g.B.BlockStore.faults x.node y.node c.caller.result c.count_call.result c.args.call d.0 d.2)

pub change_alone-requires-clause-adds : goal.change_alone-requires-clause-adds
change_alone-requires-clause-adds g c = λ x w y may does.
    (let d = does c.args.call refl in
    let who : c.caller.result.0 ≡ c.pass.inside.seat.caller = search rules in
    subst (λ (n : ℕ). AddsOnlyBy n x.node.entries y.node.entries) who (step_adds g.B.BlockStore.blocks g.B.BlockStore.greatest g.B.BlockStore.faults x.node y.node c.caller.result c.count_call.result c.args.call d.0 d.2))

pub unwrap-requires : goal.unwrap-requires
unwrap-requires g c = let d = (c.change_alone.ensures.3 c.args.call refl).1 in search rules

pub returns-clause-call : goal.returns-clause-call
returns-clause-call g c =
    let e = c.change_alone.ensures in
    let d = e.3 c.args.call refl in
    let same : d.0 ≡ c.unwrap.result = same_Some d.0 c.unwrap.result (sym d.1 ∙ c.unwrap.ensures) in
    let is : passed c.pass.inside.seat c.pass.inside.caller c.pass.inside.calls ≡ counted c.args.pass.now = search rules in
    alone_called c.args.pass.now c.pass.inside.seat c.change_alone.new.seat c.pass.inside.caller c.pass.inside.calls c.count_call.ensures.within is c.pass.invariant.0 c.caller.ensures.lawful.limited
    g.B.BlockStore.blocks g.B.BlockStore.greatest g.B.BlockStore.faults e.0.node e.1.node c.caller.result c.count_call.result c.args.call d.0 c.unwrap.result
    e.2 d.2 d.3 e.4 c.caller.ensures.caller c.count_call.ensures.number same
