use Rattle.std.proofs.Common.{ap, ◌∙◌}
use Rattle.snapshot_manager.specs.Snapshots.{is_named}
use Rattle.snapshot_manager.proofs.Entries.{is_named-names}
use Rattle.snapshot_manager.proofs.table.SnapTable.has.Goals as goal

pub returns : goal.returns
returns c = c.contains_key.ensures ∙ is_named-names c.self.inside.names.entries c.self.inside.items.entries c.args.name.now c.self.invariant ∙ ap (is_named c.args.name.now) c.self.view_is
