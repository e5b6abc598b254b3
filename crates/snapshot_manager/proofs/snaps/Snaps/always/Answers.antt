use Rattle.std.proofs.Common.{subst}
use Rattle.snapshot_manager.specs.Snapshots.{IdsApart}
use Rattle.snapshot_manager.proofs.Indexed.{ids_apart}
use Rattle.snapshot_manager.proofs.snaps.Snaps.always.Goals as goal

-- no two directories have one id, since the index has one directory for each
pub returns-clause-apart : goal.returns-clause-apart
returns-clause-apart c = subst IdsApart c.self.view_is (ids_apart c.self.inside.owners (record { dirs = c.self.inside.dirs.entries; issued = c.self.inside.issued }) c.self.invariant.0 c.self.invariant.1)
