-- How many snapshots all directories have. For proofs: contracts speak of the plain state's.
use Rattle.std.specs.Prelude.{ℕ, ◌+◌, nat_lt, List, [], ◌∷◌, filter, length, Option, Some, None}
use Rattle.hs_types.specs.declared.ids.InodeId.{InodeId}
use Rattle.snapshot_manager.specs.Snapshots.{Directory, Snapshots, snaps_in}

-- how many snapshots these directories have
abbrev pub snaps_of_all : Snapshots → List Directory → ℕ
snaps_of_all snaps [] = 0
snaps_of_all snaps (d ∷ ds) = length (snaps_in snaps d.0) + snaps_of_all snaps ds

-- and those from one on
abbrev pub snaps_from : Snapshots → Option InodeId → ℕ
snaps_from snaps None = 0
snaps_from snaps (Some id) = length (snaps_in snaps id) + snaps_of_all snaps (filter (λ d. nat_lt id.0 d.0.0) snaps.dirs)
