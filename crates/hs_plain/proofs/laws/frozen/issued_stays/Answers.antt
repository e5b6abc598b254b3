use Rattle.hs_plain.proofs.Frozen.{issued_stays}
use Rattle.hs_plain.proofs.laws.frozen.issued_stays.Goals as goal

pub returns : goal.returns
returns c = issued_stays
