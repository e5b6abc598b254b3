use Rattle.report_laws.proofs.Climbing.{climb-begins, climb-goes_on, climb-within, chain-has_row}
use Rattle.report_laws.proofs.climbs.Goals as goal

pub returns : goal.returns
returns c = record { begins = climb-begins; goes_on = climb-goes_on; within = climb-within; row = chain-has_row }
