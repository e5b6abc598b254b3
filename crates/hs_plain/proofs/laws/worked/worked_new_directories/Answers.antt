use Rattle.hs_plain.proofs.WorkedSyncs.{new_directories}
use Rattle.hs_plain.proofs.laws.worked.worked_new_directories.Goals as goal

pub returns : goal.returns
returns c = new_directories
