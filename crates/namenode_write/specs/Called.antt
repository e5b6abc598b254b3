-- What a call makes of a table alone. For proofs: contracts of calls speak of the plain state.
use Rattle.std.specs.Prelude.{◌≡◌, ℕ, ◌+◌, ◌≤◌, List, Option, Ok}
use Rattle.hs_types.specs.Blocks.{BlockMap}
use Rattle.hs_types.specs.declared.ids.BlockId.{BlockId}
use Rattle.hs_types.specs.declared.call.Call.{Call}
use Rattle.hs_types.specs.declared.reply.Reply.{Reply}
use Rattle.hs_plain.specs.declared.state.State.{State}
use Rattle.hs_plain.specs.declared.state.FileBlocks.{FileBlocks}
use Rattle.hs_plain.specs.Files.{block_files}
use Rattle.hs_plain.specs.Answer.{asked}
use Rattle.hs_plain.specs.Change.{change, ticked}
use Rattle.snapshot_manager.specs.Snapshots.{Snapshots}
use Rattle.inode_table.specs.Blocked.{AreBlocks}
use Rattle.inode_table.specs.Tabled.{Tabled}
use Rattle.inode_table.specs.Totals.{weight}
use Rattle.inode_table.specs.Whole.{StandsFor}

-- a call that touches no block was done on a table that stands for a state
pub record IsCalled (t now : Tabled) (snaps : Snapshots) (call : Call) (reply : Reply) (state : State FileBlocks) : Type 0 where
  pub answered : asked block_files state call ≡ Ok reply
  pub stands : StandsFor now snaps (ticked (change block_files state call))
  pub blocks : (store : Option BlockMap) (made : ℕ) (waiting : List BlockId) → AreBlocks t.rows store made waiting → AreBlocks now.rows store made waiting
  pub light : weight now.rows ≤ weight t.rows + 10
