-- What an edit and a merge do to the counts of a directory.
use Rattle.std.specs.Prelude.{◌≡◌, ℕ, ◌+◌, if◌then◌else◌, List, length, Some}
use Rattle.hs_types.specs.declared.ids.InodeId.{InodeId}
use Rattle.dir_changes.specs.Entries.{id_at}
use Rattle.change_history.specs.History.{LastRemoved}
use Rattle.dir_changes.specs.History.{DirHistory, number_of}
use Rattle.dir_changes.specs.Counts.{one_where, same_id, times, times_named, created_in, deleted_in, one_if_recorded, last_created, goes_to_deleted, created_gone}

-- one entry more: in the current list, and in the last record's created list
pub record CountsAdded (id : InodeId) (before after : DirHistory) : Type 0 where
  pub children : length after.children ≡ length before.children + 1
  pub created : created_in after.records ≡ created_in before.records + one_if_recorded before.records
  pub deleted : deleted_in after.records ≡ deleted_in before.records
  pub records : length after.records ≡ length before.records
  pub named : (x : InodeId) → times_named x after ≡ one_where (same_id id x) + times_named x before

-- one entry less in the current list: it goes out of the last record's created list, or into its deleted list, or nowhere
pub record CountsRemoved (name : List ℕ) (id : InodeId) (before after : DirHistory) : Type 0 where
  pub children : length after.children + 1 ≡ length before.children
  pub created : created_in after.records + one_where (last_created name id before.records) ≡ created_in before.records
  pub deleted : deleted_in after.records ≡ deleted_in before.records + one_where (goes_to_deleted name id before.records)
  pub records : length after.records ≡ length before.records
  pub named : (x : InodeId) → times_named x after + (if goes_to_deleted name id before.records then 0 else one_where (same_id id x)) ≡ times_named x before

abbrev pub RemovedCounts : List ℕ → DirHistory → DirHistory → Type 0
RemovedCounts name before after = (id : InodeId) → id_at name before.children ≡ Some id → CountsRemoved name id before after

-- record i combined: each id that is handed back was in one deleted list more, and in a created list too but for the first record's
pub record CountsCombined (i : ℕ) (ids : List InodeId) (before after : DirHistory) : Type 0 where
  pub created : created_in after.records + created_gone i before.records ≡ created_in before.records
  pub deleted : deleted_in after.records + length ids ≡ deleted_in before.records
  pub records : length after.records + 1 ≡ length before.records
  pub named : (x : InodeId) → times_named x after + times x ids ≡ times_named x before

-- the number of the last record, once record i is combined
abbrev pub LastCombined : ℕ → DirHistory → DirHistory → Type 0
LastCombined i before after = LastRemoved number_of i before.records after.records
