-- The report that a table and snapshots give.
use Rattle.std.specs.Prelude.{◌≡◌, ℕ, ◌+◌, ◌*◌, ◌<◌, ◌≤◌, ◌^◌, false, true, List}
use Rattle.hs_types.specs.declared.ids.InodeId.{InodeId}
use Rattle.hs_types.specs.declared.ids.SnapId.{SnapId}
use Rattle.hs_types.specs.declared.journal.Entry.{Entry}
use Rattle.hs_types.specs.declared.reply.Line.{Line}
use Rattle.hs_plain.specs.declared.state.State.{State}
use Rattle.hs_plain.specs.declared.state.FileBlocks.{FileBlocks}
use Rattle.hs_plain.specs.Reading.{lines_between, is_foreign}
use Rattle.hs_plain.specs.Replay.{plain_after}
use Rattle.hs_plain.specs.State.{is_snapshottable}
use Rattle.hs_plain.specs.Viewed as viewed
use Rattle.snapshot_manager.specs.Snapshots.{Snapshots}
use Rattle.inode_table.specs.RowHistory.{shown}
use Rattle.inode_table.specs.Tabled.{Tabled}
use Rattle.inode_table.specs.Whole.{StandsFor}
use Rattle.report_laws.specs.Chains.{HasChainsWithin}
use Rattle.report_laws.specs.Ends.{entries_between}

-- in each state that table and snapshots stand for, these are the plain machine's lines on a snapshottable directory, between its own snapshots or the current state
abbrev pub AreLinesBetween : Tabled → Snapshots → InodeId → SnapId → SnapId → List Line → Type 0
AreLinesBetween table snaps root from to lines = (state : State FileBlocks) → state.tick < 2 ^ 64 → StandsFor table snaps state →
    is_snapshottable state root ≡ true → is_foreign state root from ≡ false → is_foreign state root to ≡ false → lines ≡ lines_between state root from to

-- and where a journal leads to the state, at most so many rows are looked at: by the entries between the two ends, and the rows of the longest chain at either
abbrev pub LooksAtFew : Tabled → Snapshots → InodeId → SnapId → SnapId → ℕ → ℕ → Type 0
LooksAtFew table snaps root from to before after = (state : State FileBlocks) (journal : List Entry) (longest : ℕ) → state.tick < 2 ^ 64 → StandsFor table snaps state → viewed.StandsFor state (plain_after journal) →
    is_snapshottable state root ≡ true → is_foreign state root from ≡ false → is_foreign state root to ≡ false → HasChainsWithin (shown table.rows from.0) longest → HasChainsWithin (shown table.rows to.0) longest →
    after ≤ before + 16 * (1 + entries_between state from to) * (1 + longest)
