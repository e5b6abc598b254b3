use Rattle.file_changes.proofs.rows.FileRows.release_room.Goals as goal

pub invariant_of-self : goal.invariant_of-self
invariant_of-self c = record { rising = rw c.let_go.ensures.records c.self.invariant.rising; past = c.let_go.ensures.kept c.self.inside.current.spot }
