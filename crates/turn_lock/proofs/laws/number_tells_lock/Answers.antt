use Rattle.turn_lock.proofs.Numbers.{one_number}
use Rattle.turn_lock.proofs.laws.number_tells_lock.Goals as goal

pub returns : goal.returns
returns c = one_number
