use Rattle.change_history.proofs.Numbers.{rising-append}
use Rattle.file_changes.specs.History.{number_of}
use Rattle.file_changes.specs.Inside.{file_value}
use Rattle.file_changes.proofs.rows.FileRows.push_saved.Goals as goal

pub invariant_of-self : goal.invariant_of-self
invariant_of-self c = record {
  rising = rw c.push_saved.ensures.records (rising-append number_of 0 (file_value c.self.inside).history.records _ c.self.invariant.rising (rw (← c.self.view_is) at c.requires.above));
  past = c.push_saved.ensures.kept;
}
