use Rattle.dir_changes.proofs.OrderLaws.{in_order-children_at}
use Rattle.dir_changes.proofs.rows.DirRows.at.Goals as goal

pub returns-in_err-children-clause-in_order : goal.returns-in_err-children-clause-in_order
returns-in_err-children-clause-in_order c = in_order-children_at c.args.self.now.history c.children_at.ensures.sound c.args.s.0

pub returns-in_err-copy-clause-in_order : goal.returns-in_err-copy-clause-in_order
returns-in_err-copy-clause-in_order c = in_order-children_at c.args.self.now.history c.children_at.ensures.sound c.args.s.0

pub returns-clause-in_order : goal.returns-clause-in_order
returns-clause-in_order c = in_order-children_at c.args.self.now.history c.children_at.ensures.sound c.args.s.0
