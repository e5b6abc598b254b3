-- The file at a place by the rows alone. For proofs: contracts of calls speak of the plain state.
use Rattle.std.specs.Prelude.{◌≡◌, ℕ, Option, Some, None, Ok, Err}
use Rattle.hs_types.specs.declared.call.Place.{Place}
use Rattle.hs_types.specs.declared.call.Place.TheVariants as places
use Rattle.hs_types.specs.declared.refusal.Refusal.TheVariants.{NotFound, NotFile}
use Rattle.hs_plain.specs.declared.state.FileBlocks.{FileBlocks}
use Rattle.hs_plain.specs.Asked.{Asked, ◌>>=◌}
use Rattle.file_changes.specs.declared.state.FileState.{FileState}
use Rattle.file_changes.specs.History.{state_at}
use Rattle.inode_table.specs.RowHistory.{Table, RowHistory, File, Dir, rows_at}

-- the bytes of a state, as blocks
abbrev pub body_of : FileState → FileBlocks
body_of state = record { size = state.size; blocks = state.blocks }

-- the file that a row is at a snapshot, at 0 now
abbrev pub file_in : ℕ → Option RowHistory → Asked FileBlocks
file_in s None = Err NotFound
file_in s (Some (File file)) = Ok (body_of (state_at s file))
file_in s (Some (Dir dir)) = Err NotFile

-- the file at a place to which a path led
abbrev pub file_placed : Table → Place → Asked FileBlocks
file_placed table (places.Live id) = file_in 0 (rows_at table id)
file_placed table (places.Frozen id s) = file_in s.0 (rows_at table id)
file_placed table (places.SnapshotsOf dir) = Err NotFile

-- the same with the place
abbrev pub placed_file : Table → Place → Asked (Place × FileBlocks)
placed_file table place = file_placed table place >>= λ file. Ok (place, file)

-- a file is there
abbrev pub HasFile : Table → Place → Type 0
HasFile table place = (file : FileBlocks) × (file_placed table place ≡ Ok file)
