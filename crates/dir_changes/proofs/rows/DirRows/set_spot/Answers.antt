use Rattle.dir_changes.specs.History.{Marks, DirHistory}
use Rattle.dir_changes.specs.Inside.{dir_history}
use Rattle.dir_changes.proofs.ReadLaws.{marks_at-current}
use Rattle.dir_changes.proofs.rows.DirRows.set_spot.Goals as goal

pub returns-clause-marks_as_before : goal.returns-clause-marks_as_before
returns-clause-marks_as_before c =
    let dir : DirHistory = dir_history c.self.inside in
    let marks : Marks = record { spot = c.args.spot; mode = c.self.inside.mode; stamp = c.self.inside.stamp } in
    rw (c.forget_fresh.ensures.records, ← c.self.view_is) (λ s above le. marks_at-current dir marks s above le)
