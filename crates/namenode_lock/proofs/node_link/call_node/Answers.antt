use Rattle.namenode_lock.proofs.Alone.{node_called, node_stays}
use Rattle.namenode_lock.proofs.node_link.call_node.Goals as goal

pub returns-clause-call : goal.returns-clause-call
returns-clause-call g c =
    node_called g.B.BlockStore.blocks g.B.BlockStore.faults c.args.caller c.args.seq.now c.next_number.result c.args.node.now c.make_call-answered.new.node c.args.call c.make_call-answered.result
    c.next_number.ensures.next c.next_number.ensures.rises c.make_call-answered.ensures c.see.ensures

pub returns-clause-stays : goal.returns-clause-stays
returns-clause-stays g c =
    node_stays g.B.BlockStore.blocks g.B.BlockStore.faults c.args.caller c.next_number.result c.args.node.now c.make_call-answered.new.node c.args.call c.make_call-answered.result c.make_call-answered.ensures
