-- What a change of the records does to the reading at a snapshot, and which blocks they name.
use Rattle.std.proofs.Common.{◌≡◌, ℕ, zero, suc, ◌+◌, ◌<◌, ◌≤◌, Bool, true, false, eqb, List, [], ◌∷◌, ◌++◌, length, get_or, refl, ap, ◌∙◌, arith}
use Rattle.std.specs.Prelude.{◌||◌, IsTrue, slice_get, remove, Some}
use Rattle.std.specs.List.{list_any}
use Rattle.hs_types.specs.declared.ids.BlockId.{BlockId}
use Rattle.hs_types.specs.declared.ids.SnapId.{SnapId}
use Rattle.change_history.proofs.Numbers.{last_from-append}
use Rattle.change_history.proofs.Readings.{saved_at-current, saved_at-past, saved_at-append, saved_at-below_removed, saved_at-above_removed}
use Rattle.file_changes.specs.declared.state.FileState.{FileState}
use Rattle.file_changes.specs.declared.state.FileRecord.{FileRecord}
use Rattle.file_changes.specs.History.{FileHistory, number_of, state_of, last_from, last_number, rising, state_at, saved, number_at, number_before, without_record, blocks_at}
pub use Rattle.change_history.proofs.Tests.{both, first, second, less, is_less, le_no}

-- up to the last number the current state is not read
pub state_at-current : (file : FileHistory) (c : FileState) (s : ℕ) → 0 < s → s ≤ last_number file → state_at s (record file { current = c }) ≡ state_at s file
state_at-current file c s above le = saved_at-current number_of state_of s file.records c file.current above le

-- above it, it is
pub state_at-past : (file : FileHistory) (s : ℕ) → IsTrue (rising 0 file.records) → last_number file < s → state_at s file ≡ file.current
state_at-past file s rise above = saved_at-past number_of state_of s file.records file.current rise above

-- a new record saves the present state
pub state_at-saved : (file : FileHistory) (k : SnapId) (s : ℕ) → state_at s (saved k file) ≡ state_at s file
state_at-saved file k s = saved_at-append number_of state_of s file.records (record { number = k; state = file.current })

pub state_at-saved_there : (file : FileHistory) (k : SnapId) (s : ℕ) → IsTrue (rising 0 file.records) → last_number file < s → state_at s (saved k file) ≡ file.current
state_at-saved_there file k s rise above = state_at-saved file k s ∙ state_at-past file s rise above

-- and its number is the last
pub last-saved : (number : ℕ) (records : List FileRecord) (new : FileRecord) → last_from number (records ++ new ∷ []) ≡ new.number.0
last-saved number records new = last_from-append number_of number records new

-- a record is removed
pub state_at-below_removed : (file : FileHistory) (i s : ℕ) → s ≤ number_before file.records i → state_at s (without_record i file) ≡ state_at s file
state_at-below_removed file i s le = saved_at-below_removed number_of state_of s file.records i file.current le

pub state_at-above_removed : (file : FileHistory) (i s : ℕ) → number_at file.records i < s → state_at s (without_record i file) ≡ state_at s file
state_at-above_removed file i s above = saved_at-above_removed number_of state_of s file.records i file.current above

pub length-removed : (rs : List FileRecord) (i : ℕ) → i < length rs → length (remove rs i) + 1 ≡ length rs
length-removed [] i lt = absurd (omega arith)
length-removed (r ∷ rs) zero lt = omega arith
length-removed (r ∷ rs) (suc i) lt = let rest = length-removed rs i (omega arith) in omega (arith, rest)

-- ---- blocks

pub any_at : (blocks : List BlockId) (i : ℕ) (block other : BlockId) → slice_get blocks i ≡ Some other → eqb other.0 block.0 ≡ true → list_any (λ b. eqb b.0 block.0) blocks ≡ true
any_at [] i block other at same = cc
any_at (b ∷ blocks) zero block other at same = let e : b ≡ other = cc in ap (λ t. t || list_any (λ b. eqb b.0 block.0) blocks) (ap (λ (x : BlockId). eqb x.0 block.0) e ∙ same)
any_at (b ∷ blocks) (suc i) block other at same = either (eqb b.0 block.0) (any_at blocks i block other at same)
  where
    either : (t : Bool) {u : Bool} → u ≡ true → (t || u) ≡ true
    either true h = refl
    either false h = h

pub blocks_at-get_or : (rs : List FileRecord) (i : ℕ) (d : FileRecord) → i < length rs → (get_or rs i d).state.blocks ≡ blocks_at rs i
blocks_at-get_or [] i d lt = absurd (omega arith)
blocks_at-get_or (r ∷ rs) zero d lt = refl
blocks_at-get_or (r ∷ rs) (suc i) d lt = blocks_at-get_or rs i d (omega arith)
