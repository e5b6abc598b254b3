use Rattle.dir_changes.proofs.UndoLaw.{combines_undo}
use Rattle.dir_changes.proofs.laws.combine_law.Goals as goal

pub returns : goal.returns
returns c = combines_undo
