use Rattle.turn_lock.proofs.Order.{place_from}
use Rattle.turn_lock.proofs.laws.place_tells_caller.Goals as goal

pub returns : goal.returns
returns c = place_from
