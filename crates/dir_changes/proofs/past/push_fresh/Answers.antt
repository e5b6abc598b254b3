use Rattle.std.proofs.Common.{◌≡◌, ◌+◌, ◌∷◌, ◌++◌, [], length, sym, ap, subst, ◌∙◌, arith, rules}
use Rattle.std.specs.Prelude.{vec_len}
use Rattle.dir_changes.specs.declared.recorded.DirRecord.{DirRecord}
use Rattle.dir_changes.specs.Spare.{one_if, LastHasRoom, PairsFit, created_len, deleted_len}
use Rattle.dir_changes.proofs.LastLaws.{last_has_room, pairs_fit_push}
use Rattle.dir_changes.proofs.KeptLaws.{merge_kept}
use Rattle.dir_changes.proofs.past.push_fresh.Goals as goal

pub returns-clause-ready : goal.returns-clause-ready
returns-clause-ready c =
    let was = c.requires.ready in
    let rs = c.args.past.now.records.items in
    let edits = c.args.past.now.edits in
    let there = sym c.take.ensures.value ∙ c.in-Some.is in
    let fresh = was.fresh c.in-Some.fresh there in
    let r : DirRecord = record { number = c.args.number; spot = c.in-Some.fresh.spot; mode = c.args.mode; stamp = c.args.stamp; created = c.in-Some.fresh.created; deleted = c.in-Some.fresh.deleted } in
    let new : c.push_reserved.new.self.items ≡ rs ++ r ∷ [] = c.push_reserved.ensures.items in
    let one : one_if c.args.past.now.fresh ≡ 1 = ap one_if there in
    let none : one_if c.take.new.self ≡ 0 = ap one_if c.take.ensures.after in
    record {
      few = was.few;
      names_room = was.names_room;
      last_room = subst (LastHasRoom edits) (sym new) (last_has_room edits rs r (omega (arith, was.few, fresh.created_room)) (omega (arith, was.few, fresh.deleted_room)));
      fresh = rw c.take.ensures.after (search rules);
      merge = merge_kept rs c.push_reserved.new.self.items edits (vec_len c.args.past.now.records + one_if c.args.past.now.fresh) (vec_len c.push_reserved.new.self + one_if c.take.new.self) c.args.past.now.merge
          (λ most fit. subst (PairsFit created_len most) (sym new) (pairs_fit_push created_len most rs r (ap length fresh.created) fit))
          (λ most fit. subst (PairsFit deleted_len most) (sym new) (pairs_fit_push deleted_len most rs r (ap length fresh.deleted) fit))
          (omega (arith, one, none, c.push_reserved.ensures.len)) was.merge;
    }
