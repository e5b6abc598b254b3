use Rattle.turn_lock.proofs.Order.{in_order_are_all}
use Rattle.turn_lock.proofs.laws.seats_in_order_are_all.Goals as goal

pub returns : goal.returns
returns c = in_order_are_all
