use Rattle.std.proofs.Common.{[], unwrap_or, sym, ap, ◌∙◌}
use Rattle.snapshot_manager.specs.Snapshots.{last_id}
use Rattle.snapshot_manager.proofs.Histories.{last_id-rising}
use Rattle.snapshot_manager.proofs.snaps.Snaps.last_of.Goals as goal

pub returns : goal.returns
returns c =
    let items = c.in_ok-table_of.field-0.now in
    sym (ap (λ o. last_id (unwrap_or o [])) (sym c.in_ok-table_of.ensures.value) ∙ last_id-rising items c.in_ok-item.item.now c.in_ok-table_of.ensures.history.rise (sym c.in_ok-item.ensures))
