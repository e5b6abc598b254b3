use Rattle.hs_plain.proofs.WorkedSyncs.{rename_beside}
use Rattle.hs_plain.proofs.laws.worked.worked_rename_beside.Goals as goal

pub returns : goal.returns
returns c = rename_beside
