-- The states of a file: the current one, and those that records saved.
use Rattle.std.specs.Prelude.{◌≡◌, ◌<◌, ℕ, zero, suc, Bool, not, ◌||◌, ◌==◌, List, [], ◌∷◌, ◌++◌, filter, remove, IsTrue}
use Rattle.std.specs.List.{list_any}
use Rattle.hs_types.specs.declared.ids.BlockId.{BlockId}
use Rattle.hs_types.specs.declared.ids.SnapId.{SnapId}
use Rattle.change_history.specs.History as history
use Rattle.file_changes.specs.declared.state.FileState.{FileState}
use Rattle.file_changes.specs.declared.state.FileRecord.{FileRecord}

-- a file: its current state, and its records
pub record FileHistory : Type 0 where
  pub current : FileState
  pub records : List FileRecord

-- a file beside what room was made: how many calls of `save` can't want memory
pub record FileValue : Type 0 where
  pub history : FileHistory
  pub saves : ℕ

-- the number of a record
abbrev pub number_of : FileRecord → ℕ
number_of record_ = record_.number.0

-- the state that a record saved
abbrev pub state_of : FileRecord → FileState
state_of record_ = record_.state

-- the number of the last record, or the one handed in
abbrev pub last_from : ℕ → List FileRecord → ℕ
last_from number records = history.last_from number_of number records

-- the number of the last record, or 0
abbrev pub last_number : FileHistory → ℕ
last_number file = last_from 0 file.records

-- whether the numbers rise, all above the one handed in
abbrev pub rising : ℕ → List FileRecord → Bool
rising number records = history.rising number_of number records

-- the state that the first record numbered at least s saved; without one, the current state
abbrev pub state_from : ℕ → List FileRecord → FileState → FileState
state_from s records current = history.saved_from number_of state_of s records current

-- the state at a snapshot; 0 is no snapshot, and stands for the current state
abbrev pub state_at : ℕ → FileHistory → FileState
state_at s file = history.saved_at number_of state_of s file.records file.current

-- a new record that saves the present state
abbrev pub saved : SnapId → FileHistory → FileHistory
saved number file = record file { records = file.records ++ record { number = number; state = file.current } ∷ [] }

-- the number of record i, or 0
abbrev pub number_at : List FileRecord → ℕ → ℕ
number_at records i = history.number_at number_of records i

-- the number of the record before record i, or 0
abbrev pub number_before : List FileRecord → ℕ → ℕ
number_before records i = history.number_before number_of records i

-- the file without record i
abbrev pub without_record : ℕ → FileHistory → FileHistory
without_record i file = record file { records = remove file.records i }

abbrev pub state_has : BlockId → FileState → Bool
state_has block state = list_any (λ other. other.0 == block.0) state.blocks

-- whether a state names the block
abbrev pub names : FileHistory → BlockId → Bool
names file block = state_has block file.current || list_any (λ record_. state_has block record_.state) file.records

-- the blocks of record i
abbrev pub blocks_at : List FileRecord → ℕ → List BlockId
blocks_at [] i = []
blocks_at (record_ ∷ records) zero = record_.state.blocks
blocks_at (record_ ∷ records) (suc i) = blocks_at records i

-- the blocks of record i that no other state names
abbrev pub only_at : ℕ → FileHistory → List BlockId
only_at i file = filter (λ block. not (names (without_record i file) block)) (blocks_at file.records i)

-- the number of the last record, once record i is removed
abbrev pub LastRemoved : ℕ → FileHistory → FileHistory → Type 0
LastRemoved i before after = history.LastRemoved number_of i before.records after.records

-- above the last number an id reads the current state
abbrev pub CurrentLaw : Type 0
CurrentLaw = (file : FileHistory) → IsTrue (rising 0 file.records) → (s : ℕ) → last_number file < s → state_at s file ≡ file.current
