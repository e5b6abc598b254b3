-- Private: one pair of lists that stands for those of several records.
use Rattle.std.specs.Prelude.{◌≡◌, List, IsTrue}
use Rattle.dir_changes.specs.Entries.{Entries, in_order}
use Rattle.dir_changes.specs.Undo.{ListDiff, undo, can_undo}
use Rattle.dir_changes.specs.History.{Past, undo_all, can_undo_all}

-- wherever all the records can be undone, it can, and leads to the same list
abbrev pub StandsForAll : ListDiff → List Past → Type 0
StandsForAll diff records = (entries : Entries) → IsTrue (in_order entries) → IsTrue (can_undo_all records entries)
    → (IsTrue (can_undo diff entries)) × (undo diff entries ≡ undo_all records entries)
