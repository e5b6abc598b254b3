use Rattle.turn_lock.proofs.Order.{in_order_from_zero}
use Rattle.turn_lock.proofs.laws.seats_begin_at_zero.Goals as goal

pub returns : goal.returns
returns c = in_order_from_zero
