use Rattle.hs_plain.proofs.Frozen.{frozen_stays}
use Rattle.hs_plain.proofs.laws.frozen.frozen_stays.Goals as goal

pub returns : goal.returns
returns c = frozen_stays
