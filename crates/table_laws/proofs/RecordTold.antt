-- What is told of records and of live ids.
use Rattle.std.proofs.Common.{◌≡◌, ℕ, zero, suc, ◌<◌, ◌≤◌, List, [], ◌∷◌, map, Some, None, length, slice_get, refl, sym, ap, ◌∙◌, arith}
use Rattle.std.specs.Prelude.{nat_lt, nat_le, ◌&&◌, ◌||◌}
use Rattle.std.specs.List.{list_any}
use Rattle.std.specs.Option.{option_map}
use Rattle.hs_types.specs.declared.ids.SnapId.{SnapId}
use Rattle.hs_plain.specs.declared.state.Member.{Member}
use Rattle.hs_plain.specs.declared.state.FileBlocks.{FileBlocks}
use Rattle.hs_plain.proofs.ValidShapes.{none_some, same_some}
use Rattle.dir_changes.specs.History.{Past}
use Rattle.file_changes.specs.declared.state.FileRecord.{FileRecord}
use Rattle.snapshot_manager.specs.Snapshots.{Snapshots, IsProper, is_between, live}
use Rattle.snapshot_manager.proofs.MemberLemmas.{live_ids}
use Rattle.inode_table.specs.Joined.{told, AreTold}
use Rattle.inode_table.specs.Records.{before_at, at_or}
use Rattle.inode_table.specs.RowHistory.{RowHistory, File, Dir, is_live_between}
use Rattle.inode_table.specs.Totals.{records_in}
use Rattle.inode_table.specs.Whole.{numbers_in}
use Rattle.table_laws.specs.RecordTold.{number_told, TellsNumber}

-- ---- numbers, of files and directories alike

module _ {X : Type 0} (number : X → SnapId) where
  length_numbers : (xs : List X) → length (map (λ x. (number x).0) xs) ≡ length xs
  length_numbers [] = refl
  length_numbers (x ∷ xs) = let rest = length_numbers xs in omega (arith, rest)

  number_at : (xs : List X) (i : ℕ) (n : SnapId) → option_map number (slice_get xs i) ≡ Some n → (i < length (map (λ x. (number x).0) xs)) × (at_or (map (λ x. (number x).0) xs) i ≡ n.0)
  number_at [] i n h = absurd (none_some h)
  number_at (x ∷ xs) zero n h = (omega arith, ap (λ (k : SnapId). k.0) (same_some h))
  number_at (x ∷ xs) (suc i) n h = let rest = number_at xs i n h in let lt = rest.0 in (omega (arith, lt), rest.1)

  before_next : (low : ℕ) (xs : List X) (i : ℕ) (n : SnapId) → option_map number (slice_get xs i) ≡ Some n → before_at low (map (λ x. (number x).0) xs) (suc i) ≡ n.0
  before_next low [] i n h = absurd (none_some h)
  before_next low (x ∷ xs) zero n h = by xs
    where
      by : (xs : List X) → before_at (number x).0 (map (λ x. (number x).0) xs) zero ≡ n.0
      by [] = ap (λ (k : SnapId). k.0) (same_some h)
      by (y ∷ ys) = ap (λ (k : SnapId). k.0) (same_some h)
  before_next low (x ∷ xs) (suc i) n h = before_next (number x).0 xs i n h

  none_at : (xs : List X) (i : ℕ) → option_map number (slice_get xs i) ≡ None → length (map (λ x. (number x).0) xs) ≤ i
  none_at [] i h = omega arith
  none_at (x ∷ xs) zero h = absurd (none_some (sym h))
  none_at (x ∷ xs) (suc i) h = let rest = none_at xs i h in omega (arith, rest)

abbrev file_number : FileRecord → SnapId
file_number r = r.number

abbrev past_number : Past → SnapId
past_number p = p.number

pub number-told : (rows : RowHistory) (i : ℕ) (number : SnapId) → number_told rows i ≡ Some number → TellsNumber rows i number
number-told (File file) i number h = let at = number_at file_number file.records i number h in record { within = at.0; at = at.1; before_next = before_next file_number 0 file.records i number h }
number-told (Dir dir) i number h = let at = number_at past_number dir.records i number h in record { within = at.0; at = at.1; before_next = before_next past_number 0 dir.records i number h }

pub no-number-told : (rows : RowHistory) (i : ℕ) → number_told rows i ≡ None → length (numbers_in rows) ≤ i
no-number-told (File file) i h = none_at file_number file.records i h
no-number-told (Dir dir) i h = none_at past_number dir.records i h

pub numbers-count : (rows : RowHistory) → length (numbers_in rows) ≡ records_in rows
numbers-count (File file) = length_numbers file_number file.records
numbers-count (Dir dir) = length_numbers past_number dir.records

-- ---- live ids

live_of : (members : List (Member FileBlocks)) (low high : SnapId) → list_any (λ m. is_between low high m.1.id) (map told members) ≡ is_live_between members low.0 high.0
live_of [] low high = refl
live_of (m ∷ ms) low high = ap (λ b. (nat_lt low.0 m.snapshot.0 && nat_le m.snapshot.0 high.0) || b) (live_of ms low high)

pub live-told : (members : List (Member FileBlocks)) (snaps : Snapshots) (low high : SnapId) → IsProper snaps → AreTold members snaps
    → list_any (λ p. is_between low high p.1.id) (live snaps) ≡ is_live_between members low.0 high.0
live-told members snaps low high proper are = live_ids (map told members) snaps are low high proper ∙ live_of members low high
