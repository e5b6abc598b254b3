use Rattle.std.proofs.Common.{◌+◌, map, sym, ap, subst, ◌∙◌, arith}
use Rattle.dir_changes.specs.History.{change_last, note_removed as with_removed}
use Rattle.dir_changes.specs.Recorded.{past_of}
use Rattle.dir_changes.specs.Spare.{LastHasRoom, PairsFit, created_len, deleted_len}
use Rattle.dir_changes.proofs.LastLaws.{pasts_changed, last_room, last_has_room, pairs_fit_more, pairs_fit_same}
use Rattle.dir_changes.proofs.changes.note_removed.Goals as goal

pub note_deleted-requires : goal.note_deleted-requires
note_deleted-requires c =
    let room = last_room 1 c.pop.new.self.items c.in-Some.last (subst (LastHasRoom 1) c.in-Some.ensures.items c.requires) in
    omega (arith, room.1)

pub returns-in-Some-clause-noted : goal.returns-in-Some-clause-noted
returns-in-Some-clause-noted c =
    ap (map past_of) c.push_reserved.ensures.items
    ∙ pasts_changed (with_removed c.args.child.0 c.args.child.1) c.pop.new.self.items c.in-Some.last c.note_deleted.new.record_ c.note_deleted.ensures.noted
    ∙ ap (λ l. change_last (with_removed c.args.child.0 c.args.child.1) (map past_of l)) (sym c.in-Some.ensures.items)

pub returns-in-Some-clause-last_room : goal.returns-in-Some-clause-last_room
returns-in-Some-clause-last_room c n had =
    let room = last_room (n + 1) c.pop.new.self.items c.in-Some.last (subst (LastHasRoom (n + 1)) c.in-Some.ensures.items had) in
    subst (LastHasRoom n) (sym c.push_reserved.ensures.items)
    (last_has_room n c.pop.new.self.items c.note_deleted.new.record_ (omega (arith, room.0, c.note_deleted.ensures.created_room)) (omega (arith, room.1, c.note_deleted.ensures.deleted_room)))

pub returns-in-Some-clause-created_fit : goal.returns-in-Some-clause-created_fit
returns-in-Some-clause-created_fit c most had = subst (PairsFit created_len most) (sym c.push_reserved.ensures.items)
    (pairs_fit_same created_len most c.pop.new.self.items c.in-Some.last c.note_deleted.new.record_ c.note_deleted.ensures.created_len (subst (PairsFit created_len most) c.in-Some.ensures.items had))

pub returns-in-Some-clause-deleted_fit : goal.returns-in-Some-clause-deleted_fit
returns-in-Some-clause-deleted_fit c most had = subst (PairsFit deleted_len (most + 1)) (sym c.push_reserved.ensures.items)
    (pairs_fit_more deleted_len most 1 c.pop.new.self.items c.in-Some.last c.note_deleted.new.record_ c.note_deleted.ensures.deleted_len (subst (PairsFit deleted_len most) c.in-Some.ensures.items had))
