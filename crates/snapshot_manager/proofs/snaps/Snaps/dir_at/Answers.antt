use Rattle.std.proofs.Common.{slice_get, ap, ◌∙◌}
use Rattle.std.specs.Option.{option_map}
use Rattle.snapshot_manager.specs.Snapshots.{Snapshots, Directory}
use Rattle.snapshot_manager.proofs.Tables.{key_at}
use Rattle.snapshot_manager.proofs.snaps.Snaps.dir_at.Goals as goal

pub returns : goal.returns
returns c = c.copied.ensures ∙ c.nth_key.ensures ∙ key_at c.self.inside.dirs.entries c.args.i ∙ ap (λ (v : Snapshots). option_map (λ (d : Directory). d.0) (slice_get v.dirs c.args.i)) c.self.view_is
