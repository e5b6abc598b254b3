-- What refuses a test refuses what is asked behind it.
use Rattle.std.proofs.Common.{ap}
use Rattle.hs_types.specs.declared.reply.Reply.{Reply}
use Rattle.hs_plain.specs.declared.resolve.AskFault.{AskFault}
use Rattle.hs_plain.specs.declared.resolve.AskFault.TheVariants.{Refused, NoMemory}
use Rattle.hs_plain.specs.Asked.{Asked, ◌>>=◌}
use Rattle.hs_plain.specs.inside.Faults.{IsFaultOf}
use Rattle.hs_plain.specs.Answer.{replied}

-- what refuses a test refuses all tests behind it
pub fault-then : {X Y : Type 0} (a : Asked X) (f : X → Asked Y) (fault : AskFault) → IsFaultOf a fault → IsFaultOf (a >>= f) fault
fault-then {X = X} a f (Refused why) is = ap (λ (x : Asked X). x >>= f) is
fault-then a f NoMemory is = tt

pub fault-replied : {X : Type 0} (reply : Reply) (a : Asked X) (fault : AskFault) → IsFaultOf a fault → IsFaultOf (replied reply a) fault
fault-replied {X = X} reply a (Refused why) is = ap (λ (x : Asked X). replied reply x) is
fault-replied reply a NoMemory is = tt
