use Rattle.std.proofs.Common.{◌≡◌, map, drop}
use Rattle.dir_changes.specs.Entries.{id_at}
use Rattle.dir_changes.specs.History.{undo_all}
use Rattle.dir_changes.specs.Recorded.{past_of}
use Rattle.dir_changes.proofs.reading.id_before.Given as goal

-- the records so far don't tell
abbrev pub invariant-loop-saved : goal.invariant-loop-saved
invariant-loop-saved l = id_at l.name (undo_all (map past_of (drop l.saved-index l.records)) l.children.entries) ≡ id_at l.name (undo_all (map past_of l.records) l.children.entries)
