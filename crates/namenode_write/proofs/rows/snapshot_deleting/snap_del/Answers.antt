use Rattle.std.proofs.Common.{List, ◌++◌, ◌∷◌, [], refl, ap, ◌∙◌}
use Rattle.hs_types.specs.declared.ids.BlockId.{BlockId}
use Rattle.hs_types.specs.declared.call.Call.TheVariants as calls
use Rattle.hs_types.specs.declared.reply.Reply.TheVariants as replies
use Rattle.hs_plain.specs.Snapshotting.{snap_del_at}
use Rattle.inode_table.specs.Kept.{told}
use Rattle.namenode_write.specs.declared.rows.space.RowSpace.{RowSpace}
use Rattle.namenode_write.proofs.Causes.{fault-replied}
use Rattle.namenode_write.proofs.FreedOutcomes.{freed-outcome}
use Rattle.namenode_write.proofs.Outcomes.{refused-outcome, place-outcome, memory-outcome, would-do, place-stands}
use Rattle.namenode_write.proofs.SnapDeleted.{IsDropped, drop-store, drop-journal, drop-limit, drop-place, drop-done, drop-light, drop-alike}
use Rattle.namenode_write.proofs.SnapTests.{live-deleted}
use Rattle.namenode_write.proofs.rows.snapshot_deleting.snap_del.Goals as goal

pub returns-in_err-id : goal.returns-in_err-id
returns-in_err-id g c =
    refused-outcome g.B.BlockStore.blocks g.B.BlockStore.greatest g.B.BlockStore.faults c.args.space.now (calls.SnapDel c.args.path.now c.args.name.now) c.from_residual.result c.in_err-id.field-0.0 c.from_residual.ensures.1 c.requires.standing
    (λ state all. fault-replied replies.Done (snap_del_at state c.args.path.now c.args.name.now) c.in_err-id.field-0.0 (c.in_err-id.ensures state all))

pub returns-in_err-make_place : goal.returns-in_err-make_place
returns-in_err-make_place g c =
    place-outcome g.B.BlockStore.blocks g.B.BlockStore.greatest g.B.BlockStore.faults c.args.space.now c.make_place.new.space (calls.SnapDel c.args.path.now c.args.name.now) c.from_residual-in_err-make_place.result c.in_err-make_place.field-0.0
    c.from_residual-in_err-make_place.ensures.1 c.in_err-make_place.ensures.fault c.in_err-make_place.ensures.refused c.make_place.ensures.kept c.make_place.ensures.journal
    (λ state all. would-do replies.Done (snap_del_at state c.args.path.now c.args.name.now) c.in_ok-id.id (c.in_ok-id.ensures state all) refl)

pub drop_snapshot-requires : goal.drop_snapshot-requires
drop_snapshot-requires g c =
    let all = c.requires.standing.1.stands in
    record {
      live = live-deleted (told c.make_place.new.space.table) c.make_place.new.space.snaps all.state (place-stands c.args.space.now c.make_place.new.space c.make_place.ensures.kept all.state all.stands)
          c.args.path.now c.args.name.now c.in_ok-id.id c.always.ensures.proper (c.in_ok-id.ensures all.state all.stands);
    }

pub returns-in_err-freed : goal.returns-in_err-freed
returns-in_err-freed g c =
    let place = c.make_place.new.space in
    let after : RowSpace g.row.B.Denot = record place { table = c.drop_snapshot.new.table; snaps = c.drop_snapshot.new.snaps; waiting = c.make_list_room.new.waiting } in
    memory-outcome g.B.BlockStore.blocks g.B.BlockStore.greatest g.B.BlockStore.faults c.args.space.now after (calls.SnapDel c.args.path.now c.args.name.now) c.from_residual-in_err-freed.result c.from_residual-in_err-freed.ensures.1
    (drop-alike g.B.BlockStore.blocks g.B.BlockStore.greatest c.args.space.now place after c.make_place.ensures.kept c.make_place.ensures.journal c.in_err-freed.ensures.err_table c.in_err-freed.ensures.err_snaps c.make_list_room.ensures.items refl)

pub returns : goal.returns
returns g c =
    let place = c.make_place.new.space in
    let middle : RowSpace g.row.B.Denot = record place { table = c.drop_snapshot.new.table; snaps = c.drop_snapshot.new.snaps; waiting = c.push_reserved.new.self } in
    let after : RowSpace g.row.B.Denot = record middle { store = c.free_waiting.new.store; waiting = c.free_waiting.new.waiting } in
    let is : IsDropped c.args.space.now place middle c.in_ok-id.id c.in_ok-freed.freed.blocks = record {
      kept = c.make_place.ensures.kept;
      items = c.make_place.ensures.journal;
      has = c.in_ok-make_place.ensures.place;
      stands = c.in_ok-freed.ensures.stands;
      blocks = c.in_ok-freed.ensures.blocks;
      light = c.in_ok-freed.ensures.light;
      waiting = c.push_reserved.ensures.items ∙ ap (λ (l : List (List BlockId)). l ++ c.in_ok-freed.freed.blocks ∷ []) c.make_list_room.ensures.items;
      rest = refl;
    } in
    freed-outcome g.B.BlockStore.blocks g.B.BlockStore.greatest g.B.BlockStore.faults c.args.space.now middle after (calls.SnapDel c.args.path.now c.args.name.now) replies.Done
    (drop-done is g.B.BlockStore.blocks g.B.BlockStore.greatest c.args.path.now c.args.name.now c.in_ok-id.ensures)
    (drop-light is g.B.BlockStore.blocks g.B.BlockStore.greatest c.args.path.now c.args.name.now c.in_ok-id.ensures)
    (drop-store is) (drop-journal is) (drop-limit is) (drop-place is) refl refl refl refl c.free_waiting.ensures.standing c.free_waiting.ensures.tells c.free_waiting.ensures.count c.free_waiting.ensures.freed
