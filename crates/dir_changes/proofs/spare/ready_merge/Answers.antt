use Rattle.std.proofs.Common.{◌≡◌, ℕ, ◌≤◌, Some, sym, subst, arith}
use Rattle.dir_changes.specs.declared.spare.MergeRoom.{MergeRoom}
use Rattle.dir_changes.specs.Spare.{PairsFit, created_len, deleted_len, HoldsIds, HoldsPairs, IsMergeRoom}
use Rattle.dir_changes.proofs.spare.ready_merge.Goals as goal

fewer_ids : (fewer edits : ℕ) (room : MergeRoom) → fewer ≤ edits → HoldsIds edits room → HoldsIds fewer room
fewer_ids fewer edits room le ids = record { ids_room = omega (arith, ids.ids_room); created_bound = omega (arith, ids.created_bound); deleted_bound = omega (arith, ids.deleted_bound) }

fewer_pairs : (fewer edits : ℕ) (room : MergeRoom) → fewer ≤ edits → HoldsPairs edits room → HoldsPairs fewer room
fewer_pairs fewer edits room le holds = record { created_room = omega (arith, holds.created_room); deleted_room = omega (arith, holds.deleted_room); found_room = omega (arith, holds.found_room) }

same_some : {x y : MergeRoom} → Some x ≡ Some y → x ≡ y
same_some h = cc

pub returns-in_ok-widen-in-None-clause-kept : goal.returns-in_ok-widen-in-None-clause-kept
returns-in_ok-widen-in-None-clause-kept c fewer n le bound had x is =
    let was = c.in_ok-room-in-None.ensures.measured in
    let w = c.widen.ensures in
    subst (IsMergeRoom c.args.records.now fewer n) (same_some is) (record {
      empty = w.empty;
      measured = record {
        most_created = subst (λ m. PairsFit created_len m c.args.records.now) (sym w.same.created) was.most_created;
        most_deleted = subst (λ m. PairsFit deleted_len m c.args.records.now) (sym w.same.deleted) was.most_deleted;
      };
      ids = fewer_ids fewer c.args.edits c.widen.new.room le c.in_ok-widen-in-None.ensures.ids;
      pairs = λ two. fewer_pairs fewer c.args.edits c.widen.new.room le (c.in_ok-widen-in-None.ensures.pairs (omega (arith, two, bound)));
    })
