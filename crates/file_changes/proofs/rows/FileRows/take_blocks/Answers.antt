use Rattle.file_changes.proofs.Reading.{state_at-current}
use Rattle.file_changes.proofs.rows.FileRows.take_blocks.Goals as goal

pub returns-clause-reads_as_before : goal.returns-clause-reads_as_before
returns-clause-reads_as_before c = rw (← c.self.view_is) (λ s above le. state_at-current _ _ s above le)
