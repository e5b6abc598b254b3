use Rattle.std.proofs.Common.{Result, Ok, Err, length, sym, ap, subst, arith}
use Rattle.std.specs.Prelude.{OnOk}
use Rattle.dir_changes.specs.Spare.{LastHasRoom, PairsFit, created_len, deleted_len}
use Rattle.dir_changes.proofs.LastLaws.{last_room, last_has_room, pairs_fit_same}
use Rattle.dir_changes.proofs.changes.reserve_last.Goals as goal

on_ok : {X E : Type 0} (r : Result X E) (P Q : Type 0) → (P → Q) → OnOk r P → OnOk r Q
on_ok (Ok x) P Q f p = f p
on_ok (Err e) P Q f p = tt

pub returns-in-Some-clause-ok : goal.returns-in-Some-clause-ok
returns-in-Some-clause-ok c = on_ok c.reserve_lists-reserved.result _ _
    (λ room. subst (LastHasRoom c.args.more) (sym c.push_reserved.ensures.items) (last_has_room c.args.more c.pop.new.self.items c.reserve_lists-reserved.new.last room.0 room.1)) c.reserve_lists-reserved.ensures.ok

pub returns-in-Some-clause-last_room : goal.returns-in-Some-clause-last_room
returns-in-Some-clause-last_room c n had =
    let room = last_room n c.pop.new.self.items c.in-Some.last (subst (LastHasRoom n) c.in-Some.ensures.items had) in
    subst (LastHasRoom n) (sym c.push_reserved.ensures.items)
    (last_has_room n c.pop.new.self.items c.reserve_lists-reserved.new.last (omega (arith, room.0, c.reserve_lists-reserved.ensures.created_room)) (omega (arith, room.1, c.reserve_lists-reserved.ensures.deleted_room)))

pub returns-in-Some-clause-created_fit : goal.returns-in-Some-clause-created_fit
returns-in-Some-clause-created_fit c most had = subst (PairsFit created_len most) (sym c.push_reserved.ensures.items)
    (pairs_fit_same created_len most c.pop.new.self.items c.in-Some.last c.reserve_lists-reserved.new.last (omega (arith, ap (λ p. length p.diff.created) c.reserve_lists-reserved.ensures.same)) (subst (PairsFit created_len most) c.in-Some.ensures.items had))

pub returns-in-Some-clause-deleted_fit : goal.returns-in-Some-clause-deleted_fit
returns-in-Some-clause-deleted_fit c most had = subst (PairsFit deleted_len most) (sym c.push_reserved.ensures.items)
    (pairs_fit_same deleted_len most c.pop.new.self.items c.in-Some.last c.reserve_lists-reserved.new.last (omega (arith, ap (λ p. length p.diff.deleted) c.reserve_lists-reserved.ensures.same)) (subst (PairsFit deleted_len most) c.in-Some.ensures.items had))
