use Rattle.std.proofs.Common.{sym, ap, ◌∙◌}
use Rattle.std.specs.List.{find}
use Rattle.std.specs.Map.Iter.{deref_pair}
use Rattle.snapshot_manager.specs.Snapshots.{is_after}
use Rattle.snapshot_manager.proofs.Entries.{first_value, first_after, taken_none, taken_some}
use Rattle.snapshot_manager.proofs.table.SnapTable.after.Goals as goal

pub returns-in_err-item : goal.returns-in_err-item
returns-in_err-item c =
    let none = taken_none deref_pair c.range.result c.next.new.self c.in_err-item.ensures.steps in
    rw c.from_residual.ensures (sym none ∙ ap first_value (c.range.ensures.between tt) ∙ first_after c.args.id c.self.inside.items.entries c.self.invariant.keyed ∙ ap (find (is_after c.args.id)) c.self.view_is)

pub returns : goal.returns
returns c =
    let some = taken_some deref_pair c.range.result c.next.new.self (c.in_ok-item.field-0-0, c.in_ok-item.item) c.in_ok-item.ensures.steps in
    sym some ∙ ap first_value (c.range.ensures.between tt) ∙ first_after c.args.id c.self.inside.items.entries c.self.invariant.keyed ∙ ap (find (is_after c.args.id)) c.self.view_is
