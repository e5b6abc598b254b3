use Rattle.std.proofs.Common.{refl}
use Rattle.std.specs.Prelude.{is_some}
use Rattle.namenode_write.proofs.FaultCountLaws.{counted_none}
use Rattle.namenode_lock.proofs.Asked.{none_grows}
use Rattle.namenode_lock.proofs.node_link.make_call.Goals as goal

pub returns-else-is_exclusive : goal.returns-else-is_exclusive
returns-else-is_exclusive g c = record {
  legal = c.ask.ensures.legal (is_some (g.B.BlockStore.blocks c.args.node.now.store)) c.args.node.now.limit c.args.caller c.args.seq;
  place = c.ask.ensures.place;
  appended = none_grows c.args.node.now.entries c.args.caller c.args.seq c.args.call c.ask.result c.ask.ensures.none;
  limit = refl;
  tells = refl;
  counted = counted_none g.B.BlockStore.faults c.args.node.now;
}
