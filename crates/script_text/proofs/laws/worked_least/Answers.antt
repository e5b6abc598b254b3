use Rattle.script_text.proofs.Worked.{least_script}
use Rattle.script_text.proofs.laws.worked_least.Goals as goal

pub returns : goal.returns
returns c = least_script
