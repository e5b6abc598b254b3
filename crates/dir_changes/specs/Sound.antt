-- What always holds of a directory.
use Rattle.std.specs.Prelude.{List, [], ◌∷◌, IsTrue}
use Rattle.dir_changes.specs.Entries.{in_order}
use Rattle.dir_changes.specs.History.{DirHistory, Past, rising, can_undo_all}

-- both lists of each record are in order
abbrev pub DiffsInOrder : List Past → Type 0
DiffsInOrder [] = Unit {0}
DiffsInOrder (past ∷ records) = IsTrue (in_order past.diff.created) × IsTrue (in_order past.diff.deleted) × DiffsInOrder records

-- the numbers rise, the child list and each record's lists are in order, and undo is defined at each record
pub record IsSound (dir : DirHistory) : Type 0 where
  pub rising : IsTrue (rising 0 dir.records)
  pub in_order : IsTrue (in_order dir.children)
  pub ordered : DiffsInOrder dir.records
  pub undoable : IsTrue (can_undo_all dir.records dir.children)
