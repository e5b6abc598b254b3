use Rattle.file_changes.specs.Inside.{file_value}
use Rattle.file_changes.proofs.Reading.{state_at-current}
use Rattle.file_changes.proofs.rows.FileRows.set_spot.Goals as goal

pub invariant_of-self : goal.invariant_of-self
invariant_of-self c = record { rising = rw c.let_go.ensures.records c.self.invariant.rising; past = c.let_go.ensures.kept c.args.spot }

pub returns-clause-reads_as_before : goal.returns-clause-reads_as_before
returns-clause-reads_as_before c = rw (c.let_go.ensures.records, ← c.self.view_is) (λ s above le. state_at-current (file_value c.self.inside).history _ s above le)
