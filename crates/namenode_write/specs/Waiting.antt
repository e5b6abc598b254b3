-- What stays true as blocks that wait are freed.
use Rattle.std.specs.Prelude.{ℕ, List, ◌++◌, Option}
use Rattle.hs_types.specs.Blocks.{BlockMap}
use Rattle.hs_types.specs.declared.ids.BlockId.{BlockId}
use Rattle.hs_plain.specs.declared.state.State.{State}
use Rattle.snapshot_manager.specs.Snapshots.{Snapshots}
use Rattle.inode_table.specs.Tabled.{Tabled}
use Rattle.inode_table.specs.Whole.{StandsForPlain}
use Rattle.namenode_write.specs.Rows.{Held, all_of, IsAt}

-- what stood for a plain state over a store with these blocks waiting behind others does so over the store as it is now with those
abbrev pub StandsStill : Option BlockMap → ℕ → List BlockId → Option BlockMap → ℕ → List BlockId → Type 0
StandsStill before made blocks now given left = (table : Tabled) (snaps : Snapshots) (front : List BlockId) (plain : State (List ℕ))
    → StandsForPlain table snaps before made (front ++ blocks) plain → StandsForPlain table snaps now given (front ++ left) plain

-- rows and snapshots over a store, with lists of blocks that wait
abbrev pub held_over : Tabled → Snapshots → Option BlockMap → ℕ → List (List BlockId) → Held
held_over table snaps store greatest lists = record { table = table; snaps = snaps; store = store; greatest = greatest; waiting = all_of lists }

-- whatever rows and snapshots are, they stand where they stood
abbrev pub StaysAt : Option BlockMap → ℕ → List (List BlockId) → Option BlockMap → ℕ → List (List BlockId) → Type 0
StaysAt before made lists now given left = (table : Tabled) (snaps : Snapshots) (count : ℕ) (plain : State (List ℕ))
    → IsAt (held_over table snaps before made lists) count plain → IsAt (held_over table snaps now given left) count plain
