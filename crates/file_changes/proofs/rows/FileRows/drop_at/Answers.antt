use Rattle.change_history.proofs.Numbers.{rising-remove, last_removed}
use Rattle.file_changes.specs.History.{FileHistory, number_of}
use Rattle.file_changes.specs.Inside.{file_value}
use Rattle.file_changes.proofs.Reading.{state_at-below_removed, state_at-above_removed, length-removed}
use Rattle.file_changes.proofs.rows.FileRows.drop_at.Goals as goal

pub invariant_of-self : goal.invariant_of-self
invariant_of-self c =
    let file : FileHistory = (file_value c.self.inside).history in
    record {
      rising = rw c.drop_record.ensures.records (rising-remove number_of 0 file.records c.args.i c.self.invariant.rising);
      past = c.drop_record.ensures.kept;
    }

pub returns-clause-last : goal.returns-clause-last
returns-clause-last c = rw (c.drop_record.ensures.records, ← c.self.view_is) (last_removed number_of (file_value c.self.inside).history.records c.args.i)

pub returns-clause-records : goal.returns-clause-records
returns-clause-records c =
    rw (c.drop_record.ensures.records, ← c.self.view_is) (length-removed (file_value c.self.inside).history.records c.args.i (rw (← c.self.view_is) at c.requires))

pub returns-clause-rising : goal.returns-clause-rising
returns-clause-rising c = rw c.drop_record.ensures.records (rising-remove number_of 0 (file_value c.self.inside).history.records c.args.i c.self.invariant.rising)

pub returns-clause-reads_below : goal.returns-clause-reads_below
returns-clause-reads_below c = rw (c.drop_record.ensures.records, ← c.self.view_is) (λ s le. state_at-below_removed _ _ s le)

pub returns-clause-reads_above : goal.returns-clause-reads_above
returns-clause-reads_above c = rw (c.drop_record.ensures.records, ← c.self.view_is) (λ s above. state_at-above_removed _ _ s above)
