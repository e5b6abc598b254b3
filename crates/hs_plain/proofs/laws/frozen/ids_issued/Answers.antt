use Rattle.hs_plain.proofs.Frozen.{ids_issued}
use Rattle.hs_plain.proofs.laws.frozen.ids_issued.Goals as goal

pub returns : goal.returns
returns c = ids_issued
