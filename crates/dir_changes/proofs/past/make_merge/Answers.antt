use Rattle.std.proofs.Common.{◌+◌, ◌≤◌, length, sym, subst, arith}
use Rattle.std.specs.Prelude.{vec_len}
use Rattle.std.specs.Option.{ForSome}
use Rattle.dir_changes.specs.Spare.{one_if, IsMergeRoom}
use Rattle.dir_changes.proofs.KeptLaws.{one_at_most}
use Rattle.dir_changes.proofs.past.make_merge.Goals as goal

pub returns-clause-ready : goal.returns-clause-ready
returns-clause-ready c =
    let was = c.requires in
    let past = c.args.past.now in
    let n = vec_len past.records + one_if past.fresh in
    let had = subst (λ rs. ForSome past.merge (IsMergeRoom rs past.edits n)) (sym c.as_slice.ensures.value) was.merge in
    let bound : n ≤ length c.as_slice.result.now + 1 = omega (arith, one_at_most past.fresh, c.as_slice.ensures.len) in
    record {
      few = was.few;
      names_room = was.names_room;
      last_room = was.last_room;
      fresh = was.fresh;
      merge = subst (λ rs. ForSome c.ready_merge.new.merge (IsMergeRoom rs past.edits n)) c.as_slice.ensures.value (c.ready_merge.ensures.kept past.edits n (omega arith) bound had);
    }
