use Rattle.file_changes.proofs.Reading.{state_at-past}
use Rattle.file_changes.proofs.laws.reading_law.Goals as goal

pub returns : goal.returns
returns c file rise s above = state_at-past file s rise above
