use Rattle.turn_lock.proofs.Order.{whole_from}
use Rattle.turn_lock.proofs.laws.whole_is_numbered_on.Goals as goal

pub returns : goal.returns
returns c = whole_from
