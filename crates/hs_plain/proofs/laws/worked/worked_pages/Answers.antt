use Rattle.hs_plain.proofs.WorkedPages.{pages_of_two}
use Rattle.hs_plain.proofs.laws.worked.worked_pages.Goals as goal

pub returns : goal.returns
returns c = pages_of_two
