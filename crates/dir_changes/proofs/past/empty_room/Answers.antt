use Rattle.std.proofs.Common.{◌≡◌, Some, None, arith}
use Rattle.dir_changes.specs.declared.spare.FreshRecord.{FreshRecord}
use Rattle.dir_changes.specs.declared.spare.MergeRoom.{MergeRoom}
use Rattle.dir_changes.proofs.KeptLaws.{last_weaker}
use Rattle.dir_changes.proofs.past.empty_room.Goals as goal

no_fresh : {x : FreshRecord} → None ≡ Some x → ⊥
no_fresh h = cc

no_merge : {x : MergeRoom} → None ≡ Some x → ⊥
no_merge h = cc

pub returns-clause-ready : goal.returns-clause-ready
returns-clause-ready c = record {
  few = omega arith;
  names_room = omega arith;
  last_room = last_weaker 0 c.args.past.now.edits c.args.past.now.records.items (omega arith) c.requires.last_room;
  fresh = λ x is. absurd (no_fresh is);
  merge = λ x is. absurd (no_merge is);
}
