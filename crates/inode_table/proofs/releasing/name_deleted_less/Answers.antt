use Rattle.std.proofs.Common.{◌+◌, ◌∙◌, drop, slice_get}
use Rattle.dir_changes.specs.History.{ids_of}
use Rattle.dir_changes.specs.Counts.{deleted_ids}
use Rattle.inode_table.specs.Lessened.{deleted_of}
use Rattle.inode_table.proofs.Dropped.{next_deleted, step-lessen, step-ended}
use Rattle.inode_table.proofs.releasing.name_deleted_less.Goals as goal

pub loop-i-preserved : goal.loop-i-preserved
loop-i-preserved c =
    let records = c.args.dir.now.history.records in
    let i = c.loop-i.i in
    let here = ids_of (deleted_of (slice_get records i)) in
    let rest = deleted_ids (drop (i + 1) records) in
    record {
      rows = step-lessen here rest (deleted_ids (drop i records)) c.loop-i.rows.items c.name_record_less.new.rows.items _ (next_deleted records i) c.name_record_less.ensures.rows c.loop-i.invariant.rows;
      unnamed = step-ended here rest (deleted_ids (drop i records)) c.loop-i.rows.items c.name_record_less.new.rows.items c.loop-i.unnamed.items c.name_record_less.new.unnamed.items _ (next_deleted records i) c.name_record_less.ensures.rows c.name_record_less.ensures.unnamed c.loop-i.invariant.unnamed;
      room = c.name_record_less.ensures.room;
      capacity = c.name_record_less.ensures.capacity ∙ c.loop-i.invariant.capacity;
      slots = c.name_record_less.ensures.slots ∙ c.loop-i.invariant.slots;
    }
