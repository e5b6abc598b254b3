-- Worked examples of refusals and of bytes, by computation.
use Rattle.std.proofs.Common.{refl}
use Rattle.hs_plain.specs.worked.Refusals.{RefusedCalls, GrownBehind}

pub refused_calls : RefusedCalls
refused_calls = record { told_so = refl; proper = refl }

pub grown_behind : GrownBehind
grown_behind = record { told_so = refl; proper = refl }
