use Rattle.std.proofs.Common.{sym, ap, ◌∙◌}
use Rattle.std.specs.List.{find}
use Rattle.snapshot_manager.specs.Snapshots.{has_name}
use Rattle.snapshot_manager.proofs.Entries.{lookup_id, table_stands}
use Rattle.snapshot_manager.proofs.table.SnapTable.get.Goals as goal

pub returns : goal.returns
returns c =
    let there = table_stands c.self.inside.names.entries c.self.inside.items.entries c.args.name.now c.in_ok-id.id.now c.self.invariant c.in_ok-id.ensures.value in
    c.get-2.ensures.value ∙ lookup_id c.in_ok-id.id.now c.self.inside.items.entries c.self.invariant.keyed ∙ there.by_id ∙ sym there.by_name ∙ ap (find (has_name c.args.name.now)) c.self.view_is
