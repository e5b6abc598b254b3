use Rattle.std.proofs.Common.{ap, ◌∙◌}
use Rattle.std.specs.List.{find}
use Rattle.snapshot_manager.specs.Snapshots.{has_id}
use Rattle.snapshot_manager.proofs.Entries.{lookup_id}
use Rattle.snapshot_manager.proofs.table.SnapTable.by_id.Goals as goal

pub returns : goal.returns
returns c = c.get.ensures.value ∙ lookup_id c.args.id c.self.inside.items.entries c.self.invariant.keyed ∙ ap (find (has_id c.args.id)) c.self.view_is
