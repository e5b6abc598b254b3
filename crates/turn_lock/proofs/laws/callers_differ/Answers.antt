use Rattle.turn_lock.proofs.Order.{own_callers_from}
use Rattle.turn_lock.proofs.laws.callers_differ.Goals as goal

pub returns : goal.returns
returns c = own_callers_from
