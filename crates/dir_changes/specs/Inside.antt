-- Private: what the fields of a `DirRows` stand for, and what they keep.
use Rattle.std.specs.Prelude.{◌≡◌, ℕ, ◌+◌, ◌<◌, ◌≤◌, List, [], map, Option, Some, None, vec_len, vec_capacity, Box}
use Rattle.std.specs.Option.{ForSome}
use Rattle.hs_types.specs.declared.name.Spot.{Spot}
use Rattle.dir_changes.specs.declared.rows.DirRows.TheInside.{Inside}
use Rattle.dir_changes.specs.declared.past.DirPast.{DirPast}
use Rattle.dir_changes.specs.declared.spare.FreshRecord.{FreshRecord}
use Rattle.dir_changes.specs.declared.spare.MergeRoom.{MergeRoom}
use Rattle.dir_changes.specs.History.{DirHistory, Past}
use Rattle.dir_changes.specs.Recorded.{past_of}
use Rattle.dir_changes.specs.Rows.{DirValue}
use Rattle.dir_changes.specs.Sound.{IsSound}
use Rattle.dir_changes.specs.Spare.{one_if, LastHasRoom, IsFresh, IsMergeRoom}

abbrev pub pasts_of : DirPast → List Past
pasts_of past = map past_of past.records.items

-- what is made fits the records
pub record IsReady (past : DirPast) : Type 0 where
  pub few : past.edits ≤ 3
  pub names_room : past.edits ≤ vec_len past.names
  pub last_room : LastHasRoom past.edits past.records.items
  pub fresh : ForSome past.fresh (IsFresh (vec_len past.records) (vec_capacity past.records))
  pub merge : ForSome past.merge (IsMergeRoom past.records.items past.edits (vec_len past.records + one_if past.fresh))

-- the room to combine is enough with one record more
abbrev pub IsWide : DirPast → Type 0
IsWide past = ForSome past.merge (IsMergeRoom past.records.items past.edits (vec_len past.records + 1))

-- ---- behind the box; without one there are no records, and nothing is made

module _ {Z : Type 0} where
  abbrev pub records_in : Option (Box DirPast Z) → List Past
  records_in None = []
  records_in (Some past) = pasts_of past.value

  abbrev pub edits_in : Option (Box DirPast Z) → ℕ
  edits_in None = 0
  edits_in (Some past) = past.value.edits

  abbrev pub fresh_in : Option (Box DirPast Z) → Option FreshRecord
  fresh_in None = None
  fresh_in (Some past) = past.value.fresh

  abbrev pub merge_in : Option (Box DirPast Z) → Option MergeRoom
  merge_in None = None
  merge_in (Some past) = past.value.merge

  abbrev pub IsPastReady : Option (Box DirPast Z) → Type 0
  IsPastReady None = Unit {0}
  IsPastReady (Some past) = IsReady past.value

  -- there is room for an edit in what is kept
  abbrev pub HasEdit : Option (Box DirPast Z) → Type 0
  HasEdit None = Unit {0}
  HasEdit (Some past) = 0 < past.value.edits

-- what was made for the next record has the present spot
abbrev pub HasSpot : Spot → Option FreshRecord → Type 0
HasSpot present fresh = ForSome fresh (λ f. f.spot ≡ present)

abbrev pub dir_history : Inside → DirHistory
dir_history a = record { marks = record { spot = a.spot; mode = a.mode; stamp = a.stamp }; children = a.children.entries; records = records_in a.past }

abbrev pub dir_value : Inside → DirValue
dir_value a = record { history = dir_history a; room = record { edits = edits_in a.past; starts = one_if (fresh_in a.past); merges = one_if (merge_in a.past) } }

pub record IsKept (a : Inside) : Type 0 where
  pub sound : IsSound (dir_history a)
  pub children_room : edits_in a.past ≤ a.children.room
  pub ready : IsPastReady a.past
  pub spot : HasSpot a.spot (fresh_in a.past)
