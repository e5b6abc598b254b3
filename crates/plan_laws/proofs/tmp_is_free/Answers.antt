use Rattle.plan_laws.proofs.Temporary.{tmp-first, from-free, to-free}
use Rattle.plan_laws.proofs.tmp_is_free.Goals as goal

pub returns : goal.returns
returns c = record { from = from-free; to = to-free; first = tmp-first }
