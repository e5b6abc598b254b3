use Rattle.dir_changes.proofs.CountLaws.{counts-added, counts-removed, counts-combined}
use Rattle.dir_changes.proofs.laws.counts_law.Goals as goal

pub returns-clause-added : goal.returns-clause-added
returns-clause-added c dir sound name id = counts-added dir name id sound

pub returns-clause-removed : goal.returns-clause-removed
returns-clause-removed c dir sound name id = counts-removed dir name id sound

pub returns-clause-combined : goal.returns-clause-combined
returns-clause-combined c dir sound i = counts-combined dir i sound
