use Rattle.sync_laws.proofs.Taken.{taken-deleted, gone-deleted}
use Rattle.sync_laws.proofs.taken_was_deleted.Goals as goal

pub returns : goal.returns
returns c = record { taken = taken-deleted; gone = gone-deleted }
