use Rattle.std.proofs.Common.{subst}
use Rattle.inode_table.specs.Merged.{IsRowMergeable}
use Rattle.record_trials.proofs.table_rows.merge.Goals as goal

pub merge-requires : goal.merge-requires
merge-requires c =
    let found = c.has_record.ensures c.if-not-has_record.false in
    let ready = c.in_ok-prepare_merge.ensures in
    record {
      row = found.0;
      there = found.1;
      has = found.2;
      prepared = subst IsRowMergeable found.1 (ready.rows c.args.id c.requires);
      room = ready.room;
    }
