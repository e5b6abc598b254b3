-- The snapshottable directories by their paths, which are found by going up. For proofs: contracts speak of the plain state's reply.
use Rattle.std.specs.Prelude.{ℕ, List, [], ◌∷◌, map, filter, length, nat_lt, Option, Some, None}
use Rattle.std.specs.FinMap.Entries.{put}
use Rattle.std.specs.declared.vec.Vec.{Vec}
use Rattle.hs_types.specs.Names.{Names}
use Rattle.hs_types.specs.Paths.{path_text}
use Rattle.hs_types.specs.declared.ids.InodeId.{InodeId}
use Rattle.hs_types.specs.declared.reply.DirItem.{DirItem}
use Rattle.hs_plain.specs.Tree.{path_cmp}
use Rattle.snapshot_manager.specs.Snapshots.{Snapshots, Directory, snaps_in}
use Rattle.inode_table.specs.Stands.{root_id}
use Rattle.inode_table.specs.Tabled.{Tabled}
use Rattle.path_resolver.specs.Rising.{way_down}

-- the ids of the directories from one on
abbrev pub dirs_from : Option InodeId → List Directory → List InodeId
dirs_from None dirs = []
dirs_from (Some id) dirs = id ∷ map (λ d. d.0) (filter (λ d. nat_lt id.0 d.0.0) dirs)

-- the entries of a map whose keys are paths
abbrev pub keyed_one : {A V : Type 0} → Vec (List ℕ) A × V → Names × V
keyed_one entry = (entry.0.items, entry.1)

abbrev pub keyed : {A V : Type 0} → List (Vec (List ℕ) A × V) → List (Names × V)
keyed entries = map keyed_one entries

-- a directory with the number of its snapshots, by path
abbrev pub DirPlace : Type 0
DirPlace = Names × (InodeId × ℕ)

abbrev pub as_dir : DirPlace → DirItem
as_dir place = record { id = place.1.0; count = place.1.1; path = path_text place.0 }

-- at its path, where it has one
abbrev pub put_at : Option Names → InodeId × ℕ → List DirPlace → List DirPlace
put_at None found places = places
put_at (Some path) found places = put path_cmp path found places

abbrev pub with_dir : Tabled → Snapshots → InodeId → List DirPlace → List DirPlace
with_dir table snaps dir places = put_at (way_down table 0 root_id dir) (dir, length (snaps_in snaps dir)) places

abbrev pub with_dirs : Tabled → Snapshots → List InodeId → List DirPlace → List DirPlace
with_dirs table snaps [] places = places
with_dirs table snaps (dir ∷ dirs) places = with_dirs table snaps dirs (with_dir table snaps dir places)

-- all of them, in path order
abbrev pub dirs_found : Tabled → Snapshots → List DirItem
dirs_found table snaps = map as_dir (with_dirs table snaps (map (λ d. d.0) snaps.dirs) [])
