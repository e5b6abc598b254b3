use Rattle.std.proofs.Common.{rules, ap, ◌∙◌, subst, arith}
use Rattle.std.specs.Arc.{arc_value}
use Rattle.turn_lock.specs.declared.view.View.{View}
use Rattle.turn_lock.specs.Steps.{Holds}
use Rattle.turn_lock.proofs.Turns.{takes_keep, tries_up}
use Rattle.turn_lock.proofs.steps.wait_for_turn.Goals as goal

pub compare_exchange-requires : goal.compare_exchange-requires
compare_exchange-requires g c =
    let now = c.args.place.now in (
      search rules,
      search rules,
      takes_keep (λ a. g.T.Historied.history (arc_value a)) (λ a. g.T.Historied.kept (arc_value a)) _ _ _ tries_up c.args.turns.now.table_id.slots now.id now.me c.requires.at_rest.0 c.requires.at_rest.1,
    )

pub swap-requires : goal.swap-requires
swap-requires g c =
    let same = c.loop.invariant.3 in
    let now = c.loop.place in (
      search rules,
      search rules,
      takes_keep (λ a. g.T.Historied.history (arc_value a)) (λ a. g.T.Historied.kept (arc_value a)) _ _ (λ _. 2) (λ n e. absurd (omega arith)) c.args.turns.now.table_id.slots now.id now.me (ap (λ m. m.0.live) same ∙ c.requires.at_rest.0) (ap (λ m. m.1) same ∙ c.requires.at_rest.1),
    )

pub returns-then-swap-eq0-clause-holds : goal.returns-then-swap-eq0-clause-holds
returns-then-swap-eq0-clause-holds g c =
    let same = c.loop.invariant.3 in
    subst (λ (v : View). Holds (λ a. g.T.Historied.history (arc_value a)) (λ a. g.T.Historied.kept (arc_value a)) v c.swap.new.seat.me) (ap (λ m. m.0) same) (c.swap.ensures.2.0 c.if-swap-eq0.true)
