-- The bytes of all files of a state, live and copied, while its table stays and the store changes.
use Rattle.std.specs.Prelude.{◌≡◌, ℕ, List, ◌∷◌, ◌++◌, Option, Some, None}
use Rattle.hs_types.specs.Blocks.{BlockMap}
use Rattle.hs_types.specs.declared.ids.BlockId.{BlockId}
use Rattle.hs_types.specs.declared.ids.InodeId.{InodeId}
use Rattle.hs_plain.specs.declared.state.State.{State}
use Rattle.hs_plain.specs.declared.state.FileBlocks.{FileBlocks}
use Rattle.hs_plain.specs.Valid.{IsSorted}
use Rattle.hs_plain.specs.Viewed.{HasBytes}
use Rattle.block_store.specs.Changes.{Changes, Sets}
use Rattle.block_contents.specs.Contents.{KeepsFile}
use Rattle.file_changes.specs.History.{FileHistory}
use Rattle.inode_table.specs.RowHistory.{File, Table, rows_at}
use Rattle.inode_table.specs.Stands.{Stands}
use Rattle.inode_table.specs.Blocked.{AreBlocks}

-- a file is written behind its end
abbrev pub GrowBytesLaw : Type 0
GrowBytesLaw = (table : Table) (state : State FileBlocks) (plain : State (List ℕ)) (issued : ℕ) (id : InodeId) (file : FileHistory) (store now : Option BlockMap) (made : ℕ) (waiting : List BlockId)
    → IsSorted state → Stands table state issued → rows_at table id ≡ Some (File file) → Changes store now (KeepsFile file.current.size file.current.blocks) → AreBlocks table store made waiting
    → HasBytes store state plain → HasBytes now state plain

-- a block that waits is freed
abbrev pub FreeBytesLaw : Type 0
FreeBytesLaw = (table : Table) (state : State FileBlocks) (plain : State (List ℕ)) (issued : ℕ) (store now : Option BlockMap) (made : ℕ) (front back : List BlockId) (block : BlockId)
    → IsSorted state → Stands table state issued → Changes store now (Sets block None) → AreBlocks table store made (front ++ block ∷ back)
    → HasBytes store state plain → HasBytes now state plain
