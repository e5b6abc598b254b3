use Rattle.std.proofs.Common.{rules, ◌∷◌, Some, ap, ◌∙◌, arith}
use Rattle.std.specs.Arc.{arc_value}
use Rattle.atomic_table.specs.Table.{rest}
use Rattle.turn_lock.proofs.Turns.{gives_keep}
use Rattle.turn_lock.proofs.steps.give_back.Goals as goal

pub swap-requires : goal.swap-requires
swap-requires g c =
    let was = c.args.place.now in
    let now = c.exchange.new.seat in
    let value = c.args.value in
    let id = c.args.turns.now.table_id in
    let is = c.exchange.ensures.3 ∙ ap (λ l. (was.me.0, (0, Some value) ∷ rest l)) c.requires.holds.2 in (
      search rules,
      search rules,
      gives_keep (λ a. g.T.Historied.history (arc_value a)) (λ a. g.T.Historied.kept (arc_value a)) _ _ id.slots now.id now.me was.me.0 value is c.requires.holds.0 c.requires.holds.1 c.requires.kept c.requires.may (omega arith),
    )
