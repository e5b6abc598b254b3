use Rattle.hs_plain.proofs.WorkedPages.{middle_deleted}
use Rattle.hs_plain.proofs.laws.worked.worked_middle_deleted.Goals as goal

pub returns : goal.returns
returns c = middle_deleted
