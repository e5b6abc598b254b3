use Rattle.std.proofs.Common.{ap, ◌∙◌}
use Rattle.std.specs.List.{list_any}
use Rattle.snapshot_manager.specs.Snapshots.{is_between, live}
use Rattle.snapshot_manager.proofs.Indexed.{between_live}
use Rattle.snapshot_manager.proofs.snaps.Snaps.live_between.Goals as goal

pub returns : goal.returns
returns c =
    c.any_between.ensures
    ∙ between_live c.self.inside.owners (record { dirs = c.self.inside.dirs.entries; issued = c.self.inside.issued }) c.self.invariant.0 c.self.invariant.1 c.args.low c.args.high
    ∙ ap (λ s. list_any (λ p. is_between c.args.low c.args.high p.1.id) (live s)) c.self.view_is
