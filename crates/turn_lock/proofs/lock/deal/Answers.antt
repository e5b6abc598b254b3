use Rattle.std.proofs.Common.{rules, ◌≡◌, [], ◌∷◌, ap, ◌∙◌, arith}
use Rattle.std.specs.Arc.{arc_value}
use Rattle.turn_lock.specs.Seats.{seat_at, view_of}
use Rattle.turn_lock.specs.Steps.{without_first, only_first}
use Rattle.turn_lock.proofs.Meetings.{deals}
use Rattle.turn_lock.proofs.Dealing.{dealt_more}
use Rattle.turn_lock.proofs.lock.deal.Goals as goal

pub split_seat-place-requires : goal.split_seat-place-requires
split_seat-place-requires g c =
    let v = c.loop.first.me.0 in
    let is = c.loop.invariant.1 in
    let from : v.from ≡ c.loop.counter = ap (λ u. u.from) is in
    let to : v.to ≡ c.args.seats = ap (λ u. u.to) is in
    (search rules, search rules, deals (λ a. g.T.Historied.history (arc_value a)) (λ a. g.T.Historied.kept (arc_value a)) _ _ c.loop.first.id v (ap (λ u. u.live) is) (omega arith) (ap (λ u. u.holds) is))

pub loop-preserved : goal.loop-preserved
loop-preserved g c =
    let inv = c.loop.invariant in
    let split = c.split_seat-place.ensures in
    let badge = c.into_badge.ensures in
    let kept = c.args.first.me.0.kept in (
      split.0 ∙ inv.0,
      ap (λ m. m.0) split.2 ∙ ap without_first inv.1,
      search rules,
      dealt_more c.args.first.table_id c.args.seats kept c.loop.counter c.loop.dealt.items _ _ c.push_reserved.ensures.items
          (λ i. seat_at ((badge.0 ∙ (split.3 ∙ inv.0)) i) (view_of ((badge.2 ∙ ap (λ m. m.0 ∷ []) (split.4 ∙ ap (λ u. (only_first u, [])) inv.1)) i))) inv.3,
    )
