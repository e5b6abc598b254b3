-- What a record says of a child list, and how it is undone.
use Rattle.std.specs.Prelude.{◌≡◌, Bool, ◌&&◌, IsTrue}
use Rattle.std.specs.List.{list_all}
use Rattle.dir_changes.specs.Entries.{Entries, in_order, without, with_all, holds, lacks}

-- the entries that were created, and those that were deleted, since the record was started
pub record ListDiff : Type 0 where
  pub created : Entries
  pub deleted : Entries

-- the list before: the created entries are taken away, and then the deleted ones are added
abbrev pub undo : ListDiff → Entries → Entries
undo diff entries = with_all diff.deleted (without diff.created entries)

-- undo is defined where each created entry is there with its id, and afterwards no deleted name is there
abbrev pub can_undo : ListDiff → Entries → Bool
can_undo diff entries = list_all (holds entries) diff.created && list_all (lacks (without diff.created entries)) diff.deleted

-- one for both. What the earlier one created and the later one deleted was there only in between: it stands in neither list.
abbrev pub combined : ListDiff → ListDiff → ListDiff
combined earlier later = record {
  created = with_all later.created (without later.deleted earlier.created);
  deleted = with_all (without earlier.created later.deleted) earlier.deleted;
}

-- wherever the later one and then the earlier one can be undone, the combined one can, and it leads to the same list
pub record CombinesUndo (earlier later : ListDiff) (entries : Entries) : Type 0 where
  pub defined : IsTrue (can_undo (combined earlier later) entries)
  pub same : undo (combined earlier later) entries ≡ undo earlier (undo later entries)

abbrev pub CombineLaw : Type 0
CombineLaw = (earlier later : ListDiff) (entries : Entries) → IsTrue (in_order entries) → IsTrue (can_undo later entries)
    → IsTrue (can_undo earlier (undo later entries)) → CombinesUndo earlier later entries
