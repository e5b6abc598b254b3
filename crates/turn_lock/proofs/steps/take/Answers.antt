use Rattle.std.proofs.Common.{rules, ◌∷◌, Some, ap, sym, ◌∙◌}
use Rattle.atomic_table.specs.Table.{rest}
use Rattle.turn_lock.proofs.steps.take.Goals as goal

pub exchange-requires : goal.exchange-requires
exchange-requires g c =
    let took = c.wait_for_turn.ensures.holds in
    (search rules, (Some took.value, took.slot ∙ ap (λ l. (0, Some took.value) ∷ rest l) (sym took.slot)))
