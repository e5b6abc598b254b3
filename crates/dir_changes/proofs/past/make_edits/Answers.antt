use Rattle.std.proofs.Common.{◌+◌, ◌≤◌, length, sym, subst, arith}
use Rattle.std.specs.Prelude.{vec_len, vec_capacity}
use Rattle.std.specs.Option.{ForSome}
use Rattle.dir_changes.specs.Spare.{one_if, IsMeasured, IsMergeRoom}
use Rattle.dir_changes.proofs.KeptLaws.{one_at_most, fresh_kept, merge_kept}
use Rattle.dir_changes.proofs.past.make_edits.Goals as goal

pub returns-in_err-reserve_last-clause-ready : goal.returns-in_err-reserve_last-clause-ready
returns-in_err-reserve_last-clause-ready c =
    let was = c.requires.ready in
    let past = c.args.past.now in
    let last = c.reserve_last.ensures in
    let qs = c.reserve_last.new.records in
    record {
      few = was.few;
      names_room = omega (arith, was.names_room, c.fill_names.ensures.kept);
      last_room = last.last_room past.edits was.last_room;
      fresh = fresh_kept (vec_len past.records) (vec_capacity past.records) (vec_len qs) (vec_capacity qs) past.fresh (omega (arith, last.len)) (omega (arith, last.capacity)) was.fresh;
      merge = merge_kept past.records.items qs.items past.edits (vec_len past.records + one_if past.fresh) (vec_len qs + one_if past.fresh) past.merge last.created_fit last.deleted_fit (omega (arith, last.len)) was.merge;
    }

pub keep_merge-requires : goal.keep_merge-requires
keep_merge-requires c x is =
    let past = c.args.past.now in
    let last = c.reserve_last.ensures in
    let qs = c.reserve_last.new.records in
    let kept = merge_kept past.records.items qs.items past.edits (vec_len past.records + one_if past.fresh) (vec_len qs + one_if past.fresh) past.merge last.created_fit last.deleted_fit (omega (arith, last.len)) c.requires.ready.merge x is in
    (kept.empty, subst (λ rs. IsMeasured rs x) (sym c.as_slice.ensures.value) kept.measured)

pub returns-in_err-keep_merge-clause-ready : goal.returns-in_err-keep_merge-clause-ready
returns-in_err-keep_merge-clause-ready c =
    let was = c.requires.ready in
    let past = c.args.past.now in
    let last = c.reserve_last.ensures in
    let qs = c.reserve_last.new.records in
    let n = vec_len qs + one_if past.fresh in
    let kept = merge_kept past.records.items qs.items past.edits (vec_len past.records + one_if past.fresh) n past.merge last.created_fit last.deleted_fit (omega (arith, last.len)) was.merge in
    let had = subst (λ rs. ForSome past.merge (IsMergeRoom rs past.edits n)) (sym c.as_slice.ensures.value) kept in
    let bound : n ≤ length c.as_slice.result.now + 1 = omega (arith, one_at_most past.fresh, c.as_slice.ensures.len) in
    record {
      few = was.few;
      names_room = omega (arith, was.names_room, c.fill_names.ensures.kept);
      last_room = last.last_room past.edits was.last_room;
      fresh = fresh_kept (vec_len past.records) (vec_capacity past.records) (vec_len qs) (vec_capacity qs) past.fresh (omega (arith, last.len)) (omega (arith, last.capacity)) was.fresh;
      merge = subst (λ rs. ForSome c.keep_merge.new.merge (IsMergeRoom rs past.edits n)) c.as_slice.ensures.value (c.keep_merge.ensures.kept past.edits n (omega arith) bound had);
    }
