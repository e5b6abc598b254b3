use Rattle.std.proofs.Common.{◌+◌, length, map, sym, ap, subst, ◌∙◌, arith}
use Rattle.dir_changes.specs.History.{change_last, note_added as with_added}
use Rattle.dir_changes.specs.Recorded.{past_of, noted}
use Rattle.dir_changes.specs.Spare.{LastHasRoom, PairsFit, created_len, deleted_len}
use Rattle.dir_changes.proofs.LastLaws.{pasts_changed, last_room, last_has_room, pairs_fit_more, pairs_fit_same}
use Rattle.dir_changes.proofs.changes.note_added.Goals as goal

pub note_created-requires : goal.note_created-requires
note_created-requires c =
    let room = last_room 1 c.pop.new.self.items c.in-Some.last (subst (LastHasRoom 1) c.in-Some.ensures.items c.requires.room) in
    omega (arith, room.0)

pub returns-in-Some-clause-noted : goal.returns-in-Some-clause-noted
returns-in-Some-clause-noted c =
    let is = c.note_created.ensures.noted ∙ ap (λ n. noted (with_added n c.args.id) (past_of c.in-Some.last)) c.copy_of-name.ensures.copy in
    ap (map past_of) c.push_reserved.ensures.items
    ∙ pasts_changed (with_added c.args.name.now c.args.id) c.pop.new.self.items c.in-Some.last c.note_created.new.record_ is
    ∙ ap (λ l. change_last (with_added c.args.name.now c.args.id) (map past_of l)) (sym c.in-Some.ensures.items)

pub returns-in-Some-clause-last_room : goal.returns-in-Some-clause-last_room
returns-in-Some-clause-last_room c n had =
    let room = last_room (n + 1) c.pop.new.self.items c.in-Some.last (subst (LastHasRoom (n + 1)) c.in-Some.ensures.items had) in
    subst (LastHasRoom n) (sym c.push_reserved.ensures.items)
    (last_has_room n c.pop.new.self.items c.note_created.new.record_ (omega (arith, room.0, c.note_created.ensures.created_room)) (omega (arith, room.1, ap (λ l. l.room) c.note_created.ensures.deleted)))

pub returns-in-Some-clause-created_fit : goal.returns-in-Some-clause-created_fit
returns-in-Some-clause-created_fit c most had = subst (PairsFit created_len (most + 1)) (sym c.push_reserved.ensures.items)
    (pairs_fit_more created_len most 1 c.pop.new.self.items c.in-Some.last c.note_created.new.record_ c.note_created.ensures.created_len (subst (PairsFit created_len most) c.in-Some.ensures.items had))

pub returns-in-Some-clause-deleted_fit : goal.returns-in-Some-clause-deleted_fit
returns-in-Some-clause-deleted_fit c most had = subst (PairsFit deleted_len most) (sym c.push_reserved.ensures.items)
    (pairs_fit_same deleted_len most c.pop.new.self.items c.in-Some.last c.note_created.new.record_ (omega (arith, ap (λ l. length l.entries) c.note_created.ensures.deleted)) (subst (PairsFit deleted_len most) c.in-Some.ensures.items had))
