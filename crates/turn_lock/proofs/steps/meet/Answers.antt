use Rattle.std.proofs.Common.{rules, ap, ◌∙◌}
use Rattle.std.specs.Arc.{arc_value}
use Rattle.turn_lock.proofs.Meetings.{notes, informs, learns_keep}
use Rattle.turn_lock.proofs.steps.meet.Goals as goal

pub split_seat-from_a-requires : goal.split_seat-from_a-requires
split_seat-from_a-requires g c = (search rules, search rules, notes (λ a. g.T.Historied.history (arc_value a)) (λ a. g.T.Historied.kept (arc_value a)) _ _ c.args.a.now.id c.args.a.now.me.0 c.requires.live.0)

pub split_seat-from_b-requires : goal.split_seat-from_b-requires
split_seat-from_b-requires g c = (search rules, search rules, notes (λ a. g.T.Historied.history (arc_value a)) (λ a. g.T.Historied.kept (arc_value a)) _ _ c.args.b.now.id c.args.b.now.me.0 c.requires.live.1)

pub join_seat-requires : goal.join_seat-requires
join_seat-requires g c =
    let mine = c.split_seat-from_a.ensures.2 in
    let theirs = c.split_seat-from_b.ensures in (
      search rules,
      search rules,
      search rules,
      search rules,
      informs (λ a. g.T.Historied.history (arc_value a)) (λ a. g.T.Historied.kept (arc_value a)) _ _ c.split_seat-from_a.new.seat.id c.split_seat-from_a.new.seat.me.0 c.split_seat-from_b.result.id c.split_seat-from_b.result.me.0 (ap (λ m. m.0.live) mine ∙ c.requires.live.0)
          (ap (λ m. m.0.live) theirs.4 ∙ c.requires.live.1) (ap (λ m. m.0.holds) theirs.4),
    )

pub join_seat-requires-2 : goal.join_seat-requires-2
join_seat-requires-2 g c =
    let mine = c.split_seat-from_b.ensures.2 in
    let theirs = c.split_seat-from_a.ensures in (
      search rules,
      search rules,
      search rules,
      search rules,
      informs (λ a. g.T.Historied.history (arc_value a)) (λ a. g.T.Historied.kept (arc_value a)) _ _ c.split_seat-from_b.new.seat.id c.split_seat-from_b.new.seat.me.0 c.split_seat-from_a.result.id c.split_seat-from_a.result.me.0 (ap (λ m. m.0.live) mine ∙ c.requires.live.1)
          (ap (λ m. m.0.live) theirs.4 ∙ c.requires.live.0) (ap (λ m. m.0.holds) theirs.4),
    )

pub load-requires : goal.load-requires
load-requires g c =
    let told = c.join_seat.ensures.2 in
    let mine = c.split_seat-from_a.ensures.2 in
    (search rules, search rules, learns_keep (λ a. g.T.Historied.history (arc_value a)) (λ a. g.T.Historied.kept (arc_value a)) _ _ c.args.turns.now.table_id.slots c.join_seat.new.seat.id c.join_seat.new.seat.me (ap (λ m. m.0.live) told ∙ (ap (λ m. m.0.live) mine ∙ c.requires.live.0)))

pub load-requires-2 : goal.load-requires-2
load-requires-2 g c =
    let told = c.join_seat-2.ensures.2 in
    let mine = c.split_seat-from_b.ensures.2 in
    (search rules, search rules, learns_keep (λ a. g.T.Historied.history (arc_value a)) (λ a. g.T.Historied.kept (arc_value a)) _ _ c.args.turns.now.table_id.slots c.join_seat-2.new.seat.id c.join_seat-2.new.seat.me (ap (λ m. m.0.live) told ∙ (ap (λ m. m.0.live) mine ∙ c.requires.live.1)))
