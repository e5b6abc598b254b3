use Rattle.namenode_write.proofs.Starting.{started}
use Rattle.namenode_write.proofs.namenode.Namenode.new.Goals as goal

pub invariant_of-result : goal.invariant_of-result
invariant_of-result g c =
    started g.B.BlockStore.blocks g.B.BlockStore.greatest g.B.BlockStore.faults (record { table = c.in_ok-new.field-0; snaps = c.new-2.result; store = c.args.store; waiting = c.new-3.result; journal = c.new-4.result; limit = c.args.limit })
    c.in_ok-new.ensures.0 c.new-5.result c.in_ok-new.ensures.1 c.new-2.ensures c.requires c.new-3.ensures.items c.new-5.ensures c.always.ensures.at_most
