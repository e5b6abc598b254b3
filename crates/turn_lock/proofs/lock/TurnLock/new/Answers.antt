use Rattle.std.proofs.Common.{rules, ◌≡◌, [], ◌∷◌, Some, sym, ap, ◌∙◌, subst}
use Rattle.std.specs.Arc.{arc_value}
use Rattle.atomic_table.specs.Table.{opening}
use Rattle.turn_lock.specs.Rule.{Turned}
use Rattle.turn_lock.specs.Steps.{opener}
use Rattle.turn_lock.proofs.Turns.{opens}
use Rattle.turn_lock.proofs.lock.TurnLock.new.Goals as goal

pub new-requires-2 : goal.new-requires-2
new-requires-2 g c =
    let arc = c.in_ok-new.field-0 in
    let kept = g.T.Historied.kept c.of.result.value in
    let same : arc_value arc ≡ c.args.value = search rules in
    let items : c.push_reserved.new.self.items ≡ Some arc ∷ [] = search rules in
    subst (λ xs. Turned (λ a. g.T.Historied.history (arc_value a)) (λ a. g.T.Historied.kept (arc_value a)) c.args.seats kept (opening (0 ∷ 0 ∷ []) xs (opener c.args.seats kept))) (sym items)
    (opens (λ a. g.T.Historied.history (arc_value a)) (λ a. g.T.Historied.kept (arc_value a)) c.args.seats kept arc (ap g.T.Historied.history same ∙ c.requires.fresh) (ap g.T.Historied.kept (same ∙ sym c.of.ensures)))
