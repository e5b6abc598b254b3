use Rattle.sync_laws.proofs.RootsStay.{roots-last, member-lasts}
use Rattle.sync_laws.proofs.roots_last.Goals as goal

pub returns : goal.returns
returns c = record { root = roots-last; member = member-lasts }
