use Rattle.sync_laws.proofs.Shown.{snaps-shown, snaps-ok}
use Rattle.sync_laws.proofs.snapshots_are_shown.Goals as goal

pub returns : goal.returns
returns c = record { shown = snaps-shown; ok = snaps-ok }
