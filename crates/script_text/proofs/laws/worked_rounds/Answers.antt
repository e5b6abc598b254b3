use Rattle.script_text.proofs.Worked.{seventh_rounds}
use Rattle.script_text.proofs.laws.worked_rounds.Goals as goal

pub returns : goal.returns
returns c = seventh_rounds
