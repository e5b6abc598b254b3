-- Private: room that was made beforehand.
use Rattle.std.specs.Prelude.{◌≡◌, ℕ, ◌+◌, ◌^◌, ◌<◌, ◌≤◌, List, [], ◌∷◌, length, Option, Some, None, vec_capacity}
use Rattle.dir_changes.specs.declared.recorded.DirRecord.{DirRecord}
use Rattle.dir_changes.specs.declared.spare.FreshRecord.{FreshRecord}
use Rattle.dir_changes.specs.declared.spare.MergeRoom.{MergeRoom}

abbrev pub one_if : {X : Type 0} → Option X → ℕ
one_if None = 0
one_if (Some x) = 1

-- the last record, where there is one, has room for so many entries in each list
abbrev pub LastHasRoom : ℕ → List DirRecord → Type 0
LastHasRoom n [] = Unit {0}
LastHasRoom n (r ∷ []) = (n ≤ r.created.room) × (n ≤ r.deleted.room)
LastHasRoom n (r ∷ s ∷ rs) = LastHasRoom n (s ∷ rs)

abbrev pub created_len : DirRecord → ℕ
created_len r = length r.created.entries

abbrev pub deleted_len : DirRecord → ℕ
deleted_len r = length r.deleted.entries

-- no record and no two neighbours have more entries
abbrev pub PairsFit : (DirRecord → ℕ) → ℕ → List DirRecord → Type 0
PairsFit len most [] = Unit {0}
PairsFit len most (r ∷ []) = len r ≤ most
PairsFit len most (r ∷ s ∷ rs) = (len r + len s ≤ most) × PairsFit len most (s ∷ rs)

-- the next record has empty lists with room, and there is a place for it
pub record IsFresh (len capacity : ℕ) (fresh : FreshRecord) : Type 0 where
  pub created : fresh.created.entries ≡ []
  pub deleted : fresh.deleted.entries ≡ []
  pub created_room : 3 ≤ fresh.created.room
  pub deleted_room : 3 ≤ fresh.deleted.room
  pub place : len < capacity

-- the lists are empty
pub record IsEmptyRoom (room : MergeRoom) : Type 0 where
  pub created : room.created.items ≡ []
  pub deleted : room.deleted.items ≡ []
  pub found : room.found.items ≡ []
  pub ids : room.ids.items ≡ []

-- no two neighbours have more entries together than was measured
pub record IsMeasured (records : List DirRecord) (room : MergeRoom) : Type 0 where
  pub most_created : PairsFit created_len room.most_created records
  pub most_deleted : PairsFit deleted_len room.most_deleted records

-- the ids of any record's deleted entries find place, also after so many edits
pub record HoldsIds (edits : ℕ) (room : MergeRoom) : Type 0 where
  pub ids_room : room.most_deleted + edits ≤ vec_capacity room.ids
  pub created_bound : room.most_created + edits < 2 ^ 64
  pub deleted_bound : room.most_deleted + edits < 2 ^ 64

-- the lists hold what any two neighbours have together, also after so many edits
pub record HoldsPairs (edits : ℕ) (room : MergeRoom) : Type 0 where
  pub created_room : room.most_created + edits ≤ vec_capacity room.created
  pub deleted_room : room.most_deleted + edits ≤ vec_capacity room.deleted
  pub found_room : room.most_deleted + edits ≤ vec_capacity room.found

-- all that the next `combine` takes, where there are n records: without two there is nothing to put together
pub record IsMergeRoom (records : List DirRecord) (edits n : ℕ) (room : MergeRoom) : Type 0 where
  pub empty : IsEmptyRoom room
  pub measured : IsMeasured records room
  pub ids : HoldsIds edits room
  pub pairs : 2 ≤ n → HoldsPairs edits room

-- both have the same measure
pub record IsSameMeasure (before after : MergeRoom) : Type 0 where
  pub created : after.most_created ≡ before.most_created
  pub deleted : after.most_deleted ≡ before.most_deleted

-- no list is shorter
pub record IsWider (before after : MergeRoom) : Type 0 where
  pub created : vec_capacity before.created ≤ vec_capacity after.created
  pub deleted : vec_capacity before.deleted ≤ vec_capacity after.deleted
  pub found : vec_capacity before.found ≤ vec_capacity after.found
  pub ids : vec_capacity before.ids ≤ vec_capacity after.ids

-- the measure of the created entries, one higher
abbrev pub created_raised : MergeRoom → MergeRoom
created_raised room = record room { most_created = room.most_created + 1 }

-- the measure of the deleted entries, one higher
abbrev pub deleted_raised : MergeRoom → MergeRoom
deleted_raised room = record room { most_deleted = room.most_deleted + 1 }

-- the lists hold what these two records have together
pub record HoldsBoth (earlier later : DirRecord) (room : MergeRoom) : Type 0 where
  pub created_room : created_len earlier + created_len later ≤ vec_capacity room.created
  pub deleted_room : deleted_len earlier + deleted_len later ≤ vec_capacity room.deleted
  pub found_room : deleted_len later ≤ vec_capacity room.found
  pub ids_room : deleted_len later ≤ vec_capacity room.ids
