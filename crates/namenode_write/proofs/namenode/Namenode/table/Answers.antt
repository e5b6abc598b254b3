use Rattle.namenode_write.proofs.namenode.Namenode.table.Goals as goal

pub returns-clause-stands : goal.returns-clause-stands
returns-clause-stands g c = rw (← c.self.view_is) c.self.invariant.at.stands
