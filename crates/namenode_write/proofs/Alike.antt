-- What hs_plain and table_laws say of every call.
use Rattle.std.proofs.Common.{◌≡◌, ℕ, false, List, Option}
use Rattle.std.specs.Prelude.{not, ◌&&◌}
use Rattle.hs_types.specs.Blocks.{BlockMap}
use Rattle.hs_types.specs.declared.ids.BlockId.{BlockId}
use Rattle.hs_types.specs.declared.call.Call.{Call}
use Rattle.hs_plain.specs.declared.state.State.{State}
use Rattle.hs_plain.specs.declared.state.FileBlocks.{FileBlocks}
use Rattle.hs_plain.specs.Files.{plain_files, block_files}
use Rattle.hs_plain.specs.Answer.{answer, answer_by, is_modifying, uses_store, blanked}
use Rattle.hs_plain.specs.Change.{change, ticked}
use Rattle.hs_plain.specs.Viewed as viewed
use Rattle.hs_plain.proofs.Stands.{answer_stands, answer_sized}
use Rattle.table_laws.proofs.WholePlain.{plain-call}
use Rattle.snapshot_manager.specs.Snapshots.{Snapshots}
use Rattle.inode_table.specs.Blocked.{AreBlocks}
use Rattle.inode_table.specs.Tabled.{Tabled}
use Rattle.inode_table.specs.Whole.{StandsFor, StandsForPlain}

pub answers_alike : (whole : State FileBlocks) (plain : State (List ℕ)) → viewed.StandsFor whole plain → (call : Call) → (uses_store call && not (is_modifying call)) ≡ false → answer plain call ≡ answer_by block_files whole call
answers_alike whole plain stands call no_read = answer_stands whole plain stands call no_read

pub blanked_alike : (whole : State FileBlocks) (plain : State (List ℕ)) → viewed.StandsFor whole plain → (call : Call) → blanked (answer plain call) ≡ answer_by block_files whole call
blanked_alike whole plain stands call = answer_sized whole plain stands call

pub plain_called : (t after : Tabled) (snaps next : Snapshots) (store : Option BlockMap) (made : ℕ) (waiting left : List BlockId) (plain : State (List ℕ)) (call : Call) (was : StandsForPlain t snaps store made waiting plain)
    → uses_store call ≡ false → StandsFor after next (ticked (change block_files was.state call)) → AreBlocks after.rows store made left
    → StandsForPlain after next store made left (ticked (change plain_files plain call))
plain_called t after snaps next store made waiting left plain call was storeless stands blocks = plain-call t after snaps next store made waiting left plain call was storeless stands blocks
