use Rattle.turn_lock.proofs.Order.{parts_from}
use Rattle.turn_lock.proofs.laws.parts_are_numbered_on.Goals as goal

pub returns : goal.returns
returns c = parts_from
