-- Table, snapshots and store stand for a plain state: at first, and after each call and each block that is freed.
use Rattle.std.specs.Prelude.{◌≡◌, ℕ, ◌+◌, false, List, [], ◌∷◌, ◌++◌, length, Option, None, Some, Ok, ⊤}
use Rattle.hs_types.specs.Names.{Names}
use Rattle.hs_types.specs.Blocks.{BlockMap}
use Rattle.hs_types.specs.declared.ids.BlockId.{BlockId}
use Rattle.hs_types.specs.declared.name.Spot.{Spot}
use Rattle.hs_types.specs.declared.call.Call.{Call}
use Rattle.hs_types.specs.declared.call.Call.TheVariants as calls
use Rattle.hs_plain.specs.declared.state.Node.{Node}
use Rattle.hs_plain.specs.declared.state.State.{State}
use Rattle.hs_plain.specs.declared.state.FileBlocks.{FileBlocks}
use Rattle.hs_plain.specs.Files.{plain_files, block_files}
use Rattle.hs_plain.specs.State.{start}
use Rattle.hs_plain.specs.Modifying.{append_at}
use Rattle.hs_plain.specs.Answer.{uses_store}
use Rattle.hs_plain.specs.Change.{change, with_file, ticked}
use Rattle.hs_plain.specs.Viewed.{bytes_in}
use Rattle.snapshot_manager.specs.Snapshots as snapshots
use Rattle.snapshot_manager.specs.Snapshots.{Snapshots}
use Rattle.block_store.specs.Changes.{Changes, Sets}
use Rattle.inode_table.specs.Blocked.{AreBlocks}
use Rattle.inode_table.specs.Start.{first_table}
use Rattle.inode_table.specs.Tabled.{Tabled}
use Rattle.inode_table.specs.Whole.{StandsFor, StandsForPlain}
use Rattle.table_laws.specs.Blocking.{HasNone}

-- ---- the start

-- the first table with no snapshots stands for the first state
abbrev pub StartLaw : Type 0
StartLaw = (spot : Spot) → StandsFor (first_table spot) snapshots.start (start {B = FileBlocks})

-- and over a store without blocks for the first plain state
abbrev pub StartPlainLaw : Type 0
StartPlainLaw = (spot : Spot) (store : Option BlockMap) (made : ℕ) → HasNone store → StandsForPlain (first_table spot) snapshots.start store made [] (start {B = List ℕ})

-- ---- calls

-- an entry that changes nothing but the tick
abbrev pub TickPlainLaw : Type 0
TickPlainLaw = (t : Tabled) (snaps : Snapshots) (store : Option BlockMap) (made : ℕ) (waiting : List BlockId) (plain : State (List ℕ))
    → StandsForPlain t snaps store made waiting plain → StandsForPlain t snaps store made waiting (ticked plain)

-- a call that asks for no store: what stands for the state with blocks after it, over the same store, stands for the plain state after it
abbrev pub CallPlainLaw : Type 0
CallPlainLaw = (t after : Tabled) (snaps next : Snapshots) (store : Option BlockMap) (made : ℕ) (waiting left : List BlockId) (plain : State (List ℕ)) (call : Call) (was : StandsForPlain t snaps store made waiting plain)
    → uses_store call ≡ false → StandsFor after next (ticked (change block_files was.state call)) → AreBlocks after.rows store made left
    → StandsForPlain after next store made left (ticked (change plain_files plain call))

-- the new file has these bytes behind the old one's, where the store tells its blocks
abbrev pub IsLonger : Option BlockMap → FileBlocks → FileBlocks → List ℕ → Type 0
IsLonger None old new bytes = ⊤
IsLonger (Some map) old new bytes = bytes_in map new ≡ bytes_in map old ++ bytes

-- an append: the store has grown, the table not yet, and then the table has the new file
abbrev pub AppendPlainLaw : Type 0
AppendPlainLaw = (t after : Tabled) (snaps next : Snapshots) (now : Option BlockMap) (made : ℕ) (waiting left : List BlockId) (plain : State (List ℕ)) (text bytes : List ℕ) (path : Names) (node : Node FileBlocks) (old new : FileBlocks)
    (was : StandsForPlain t snaps now made waiting plain) → append_at was.state text ≡ Ok (path, node, old) → new.size ≡ old.size + length bytes → IsLonger now old new bytes
    → StandsFor after next (ticked (with_file was.state path node new)) → AreBlocks after.rows now made left
    → StandsForPlain after next now made left (ticked (change plain_files plain (calls.Append text bytes)))

-- ---- the store

-- a block that waits is freed
abbrev pub FreePlainLaw : Type 0
FreePlainLaw = (t : Tabled) (snaps : Snapshots) (store now : Option BlockMap) (made : ℕ) (front back : List BlockId) (block : BlockId) (plain : State (List ℕ)) → Changes store now (Sets block None)
    → StandsForPlain t snaps store made (front ++ block ∷ back) plain → StandsForPlain t snaps now made (front ++ back) plain
