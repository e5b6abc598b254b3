use Rattle.hs_plain.proofs.WorkedMoves.{renamed_directory}
use Rattle.hs_plain.proofs.laws.worked.worked_renamed_directory.Goals as goal

pub returns : goal.returns
returns c = renamed_directory
