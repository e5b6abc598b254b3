-- Private: what the fields of a `FileRows` stand for, and what they keep.
use Rattle.std.specs.Prelude.{◌≡◌, ℕ, ◌<◌, nat_le, if◌then◌else◌, List, [], length, Option, Some, None, IsTrue, vec_len, vec_capacity, Box}
use Rattle.std.specs.Option.{ForSome}
use Rattle.hs_types.specs.declared.name.Spot.{Spot}
use Rattle.file_changes.specs.declared.rows.FileRows.TheInside.{Inside}
use Rattle.file_changes.specs.declared.past.FilePast.{FilePast}
use Rattle.file_changes.specs.declared.past.SpareCopy.{SpareCopy}
use Rattle.file_changes.specs.declared.state.FileState.{FileState}
use Rattle.file_changes.specs.declared.state.FileRecord.{FileRecord}
use Rattle.file_changes.specs.History.{FileValue, rising}

-- the records behind the box, none without one
abbrev pub records_in : {Z : Type 0} → Option (Box FilePast Z) → List FileRecord
records_in None = []
records_in (Some past) = past.value.records.items

-- one record can be made where a copy of the spot is at hand and memory for the ids of the blocks
abbrev pub saves_of : FileState → Option SpareCopy → ℕ
saves_of current None = 0
saves_of current (Some spare) = if nat_le (length current.blocks) (vec_capacity spare.ids) then 1 else 0

abbrev pub saves_in : {Z : Type 0} → FileState → Option (Box FilePast Z) → ℕ
saves_in current None = 0
saves_in current (Some past) = saves_of current past.value.spare

abbrev pub file_value : Inside → FileValue
file_value a = record { history = record { current = a.current; records = records_in a.past }; saves = saves_in a.current a.past }

-- the copy is of the present spot, no id stands in its memory yet, and there is a place for one record more
pub record IsSpareOf (present : Spot) (length_ capacity : ℕ) (spare : SpareCopy) : Type 0 where
  pub spot : spare.spot ≡ present
  pub empty : spare.ids.items ≡ []
  pub room : length_ < capacity

abbrev pub IsReady : Spot → FilePast → Type 0
IsReady spot past = ForSome past.spare (IsSpareOf spot (vec_len past.records) (vec_capacity past.records))

abbrev pub IsPastKept : {Z : Type 0} → Spot → Option (Box FilePast Z) → Type 0
IsPastKept spot None = Unit {0}
IsPastKept spot (Some past) = IsReady spot past.value

pub record IsKept (a : Inside) : Type 0 where
  pub rising : IsTrue (rising 0 (records_in a.past))
  pub past : IsPastKept a.current.spot a.past
