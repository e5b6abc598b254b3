-- What a record in memory stands for.
use Rattle.dir_changes.specs.declared.recorded.DirRecord.{DirRecord}
use Rattle.dir_changes.specs.declared.combine.Lists.{Lists}
use Rattle.dir_changes.specs.declared.recorded.DirView.{DirView}
use Rattle.dir_changes.specs.declared.recorded.DirMarks.{DirMarks}
use Rattle.dir_changes.specs.Undo.{ListDiff}
use Rattle.dir_changes.specs.History.{Marks, Past}

-- its two lists, without the room that they have
abbrev pub diff_of : DirRecord → ListDiff
diff_of r = record { created = r.created.entries; deleted = r.deleted.entries }

-- two lists as they are put together
abbrev pub lists_of : Lists → ListDiff
lists_of l = record { created = l.created.entries; deleted = l.deleted.entries }

abbrev pub past_of : DirRecord → Past
past_of r = record { number = r.number; marks = record { spot = r.spot; mode = r.mode; stamp = r.stamp }; diff = diff_of r }

-- the record with its lists changed
abbrev pub noted : (ListDiff → ListDiff) → Past → Past
noted change past = record past { diff = change past.diff }

-- the marks that are lent
abbrev pub marks_shown : DirMarks → Marks
marks_shown m = record { spot = m.spot.now; mode = m.mode; stamp = m.stamp }

-- the marks of a view
abbrev pub marks_of : DirView → Marks
marks_of v = record { spot = v.spot; mode = v.mode; stamp = v.stamp }
