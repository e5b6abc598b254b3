use Rattle.turn_lock.proofs.Order.{from_zero_in_order}
use Rattle.turn_lock.proofs.laws.seats_from_zero_are_in_order.Goals as goal

pub returns : goal.returns
returns c = from_zero_in_order
