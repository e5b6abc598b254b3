use Rattle.dir_changes.proofs.OrderLaws.{in_order-children_at}
use Rattle.dir_changes.proofs.ReadLaws.{children_at-past, marks_at-past}
use Rattle.dir_changes.proofs.laws.reading_law.Goals as goal

pub returns-clause-order : goal.returns-clause-order
returns-clause-order c = in_order-children_at

pub returns-clause-current : goal.returns-clause-current
returns-clause-current c dir sound s above = (children_at-past dir s sound.rising above, marks_at-past dir s sound.rising above)
