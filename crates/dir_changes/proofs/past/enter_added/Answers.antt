use Rattle.std.proofs.Common.{◌+◌, ◌-◌, sym, subst, arith}
use Rattle.std.specs.Prelude.{vec_len, vec_capacity}
use Rattle.std.specs.Option.{ForSome}
use Rattle.dir_changes.specs.Spare.{one_if, IsMergeRoom}
use Rattle.dir_changes.proofs.KeptLaws.{last_weaker, fresh_kept, merge_created, merge_fewer}
use Rattle.dir_changes.proofs.past.enter_added.Goals as goal

pub note_added-requires-clause-room : goal.note_added-requires-clause-room
note_added-requires-clause-room c = last_weaker 1 c.args.past.now.edits c.args.past.now.records.items c.requires.room c.requires.ready.last_room

pub returns-clause-ready : goal.returns-clause-ready
returns-clause-ready c =
    let was = c.requires.ready in
    let rs = c.args.past.now.records in
    let edits = c.args.past.now.edits in
    let qs = c.note_added.new.records in
    let n = vec_len rs + one_if c.args.past.now.fresh in
    let m = vec_len qs + one_if c.args.past.now.fresh in
    let raised = merge_created rs.items qs.items edits n c.requires.room c.args.past.now.merge c.note_added.ensures.created_fit c.note_added.ensures.deleted_fit was.merge in
    record {
      few = omega (arith, was.few);
      names_room = omega (arith, was.names_room, c.note_added.ensures.names, c.truncate.ensures.len);
      last_room = c.note_added.ensures.last_room (edits - 1) (last_weaker (edits - 1 + 1) edits rs.items (omega (arith, c.requires.room)) was.last_room);
      fresh = fresh_kept (vec_len rs) (vec_capacity rs) (vec_len qs) (vec_capacity qs) c.args.past.now.fresh (omega (arith, c.note_added.ensures.len)) (omega (arith, c.note_added.ensures.capacity)) was.fresh;
      merge = subst (λ x. ForSome x (IsMergeRoom qs.items (edits - 1) m)) (sym c.raise_created.ensures)
          (merge_fewer qs.items (edits - 1) n m _ (omega (arith, c.note_added.ensures.len)) raised);
    }
