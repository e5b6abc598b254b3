-- Records by rising numbers. A number is the id of a snapshot: the record tells that snapshot, and each one after the record before.
use Rattle.std.specs.Prelude.{◌≡◌, ◌<◌, ◌+◌, ℕ, zero, suc, Bool, true, ◌&&◌, ◌==◌, nat_lt, nat_le, if◌then◌else◌, List, [], ◌∷◌, length}

-- `number` tells the number of a record
module _ {X : Type 0} (number : X → ℕ) where
  -- the number of the last record, or the one handed in
  abbrev pub last_from : ℕ → List X → ℕ
  last_from n [] = n
  last_from n (record_ ∷ records) = last_from (number record_) records

  -- whether the numbers rise, all above the one handed in
  abbrev pub rising : ℕ → List X → Bool
  rising n [] = true
  rising n (record_ ∷ records) = nat_lt n (number record_) && rising (number record_) records

  -- the number of record i, or 0
  abbrev pub number_at : List X → ℕ → ℕ
  number_at [] i = 0
  number_at (record_ ∷ records) zero = number record_
  number_at (record_ ∷ records) (suc i) = number_at records i

  -- the number of the record before record i, or 0
  abbrev pub number_before : List X → ℕ → ℕ
  number_before records zero = 0
  number_before records (suc i) = number_at records i

  -- the records from the first one numbered at least s on
  abbrev pub records_from : ℕ → List X → List X
  records_from s [] = []
  records_from s (record_ ∷ records) = if nat_le s (number record_) then record_ ∷ records else records_from s records

  -- the records that tell snapshot s, the first of them first; 0 is no snapshot, and none tells it
  abbrev pub records_at : ℕ → List X → List X
  records_at s records = if s == 0 then [] else records_from s records

  -- the number of the last record, once record i is gone
  abbrev pub LastRemoved : ℕ → List X → List X → Type 0
  LastRemoved i before after = (i + 1 < length before → last_from 0 after ≡ last_from 0 before) × (i + 1 ≡ length before → last_from 0 after ≡ number_before before i)

  -- `saved` tells what a record has saved
  module _ {Y : Type 0} (saved : X → Y) where
    -- what the first record numbered at least s saved; without one, what is current
    abbrev pub saved_from : ℕ → List X → Y → Y
    saved_from s [] current = current
    saved_from s (record_ ∷ records) current = if nat_le s (number record_) then saved record_ else saved_from s records current

    -- what was there at snapshot s; 0 is no snapshot, and stands for what is current
    abbrev pub saved_at : ℕ → List X → Y → Y
    saved_at s records current = if s == 0 then current else saved_from s records current
