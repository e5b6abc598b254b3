use Rattle.std.proofs.Common.{length}
use Rattle.dir_changes.proofs.reading.+together.Given as goal

-- both parts are shorter
abbrev pub decreases-together : goal.decreases-together
decreases-together l = length l.records.now
