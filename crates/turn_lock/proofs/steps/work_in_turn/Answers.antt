use Rattle.std.proofs.Common.{◌≡◌, ap, sym, ◌∙◌, subst}
use Rattle.std.specs.Arc.{arc_value}
use Rattle.std.specs.Prelude.{MatchBool}
use Rattle.turn_lock.specs.declared.view.View.{View}
use Rattle.turn_lock.specs.Steps.{given, MayLeave}
use Rattle.turn_lock.proofs.Again.{Waited, waited_more, finds_first, leaves_later, leaves_same, either_way}
use Rattle.turn_lock.proofs.steps.work_in_turn.Goals as goal

pub give_back-requires-clause-may : goal.give_back-requires-clause-may
give_back-requires-clause-may g c =
    let waited = c.loop.invariant.4 in
    let v = c.args.place.now.me.0 in
    let u = c.loop.place.me.0 in
    let x = arc_value c.take-value.result in
    let y = arc_value c.work_soon-worked.new.value in
    let log = g.T.Historied.history x in
    let new = g.T.Historied.history y in
    let is = ap (λ m. m.0) c.take-value.ensures.holds in
    either_way {R = MayLeave c.take-value.new.place.me.0 new} c.work_soon-worked.result c.work_soon-worked.ensures
    (λ did. leaves_later v u _ log new waited is
    (c.requires.leaves x _ y (c.take-value.ensures.kept ∙ ap (λ (z : View). z.kept) waited.0) (finds_first v u log waited c.take-value.ensures.finds) (subst (λ w. g.W.Work.does w x c.work_soon-worked.new.work y) c.loop.invariant.5 did)).1)
    (λ same. leaves_same u _ log new is (ap g.T.Historied.history same.0))

pub loop-preserved : goal.loop-preserved
loop-preserved g c =
    let inv = c.loop.invariant in
    let u = c.loop.place.me.0 in
    let log = g.T.Historied.history (arc_value c.take-value.result) in
    let same = subst (λ b. MatchBool b (g.W.Work.does c.loop.work (arc_value c.take-value.result) c.work_soon-worked.new.work (arc_value c.work_soon-worked.new.value)) ((arc_value c.work_soon-worked.new.value ≡ arc_value c.take-value.result) × (c.work_soon-worked.new.work ≡ c.loop.work)))
    c.if-worked.false c.work_soon-worked.ensures in
    let gave = c.give_back.ensures.given in
    let is : c.give_back.new.place.me.0 ≡ given u log =
    ap (λ m. m.0) gave ∙ (ap (λ m. given m.0 (g.T.Historied.history (arc_value c.work_soon-worked.new.value))) c.take-value.ensures.holds ∙ ap (λ a. given u (g.T.Historied.history a)) same.0) in (
      tt,
      tt,
      c.give_back.ensures.table ∙ (c.take-value.ensures.table ∙ inv.2),
      ap (λ m. m.1) gave,
      subst (λ (z : View). Waited c.args.place.now.me.0 z) (sym is) (waited_more c.args.place.now.me.0 u log inv.4 c.take-value.ensures.finds),
      same.1 ∙ inv.5,
    )
