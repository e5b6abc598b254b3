use Rattle.std.proofs.Common.{◌≡◌, List, Ok, sym, ap, ◌∙◌}
use Rattle.hs_types.specs.declared.ids.InodeId.{InodeId}
use Rattle.hs_types.specs.declared.name.SnapItem.{SnapItem}
use Rattle.hs_types.specs.declared.reply.Reply.TheVariants as replies
use Rattle.std.specs.List.{filter_map}
use Rattle.hs_plain.specs.Asked.{Asked, ◌>>=◌}
use Rattle.hs_plain.specs.Reading.{snapshottable_at, snap_item}
use Rattle.inode_table.specs.Kept.{told}
use Rattle.namenode_read.proofs.Snapshots.{snaps_shown}
use Rattle.namenode_read.proofs.by_rows.snapshots.snaps.Goals as goal

pub returns : goal.returns
returns c = λ state all.
    let text = c.args.path.now in
    let dir = c.in_ok-dir.dir in
    let first : snapshottable_at state text ≡ Ok dir = rw c.in_ok-dir.was at (c.snapshottable_at.ensures state all) in
    ap (λ (a : Asked InodeId). a >>= λ dir. Ok (replies.Snaps dir (filter_map (snap_item dir) state.members))) first
    ∙ ap (λ (list : List SnapItem). Ok (replies.Snaps dir list)) (snaps_shown (told c.args.table.now) c.args.snaps.now state all dir ∙ sym c.in_ok-snapshot_list.ensures)
