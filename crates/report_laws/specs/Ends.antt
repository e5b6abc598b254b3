-- How far the trees at two ends of a report differ: at most two entries of child lists for each entry of the journal between them.
use Rattle.std.specs.Prelude.{ℕ, ◌*◌, ◌==◌, if◌then◌else◌, List, [], ◌∷◌, length}
use Rattle.std.specs.Int.{abs_diff}
use Rattle.hs_types.specs.declared.ids.InodeId.{InodeId}
use Rattle.hs_types.specs.declared.ids.SnapId.{SnapId}
use Rattle.hs_types.specs.declared.journal.Entry.{Entry}
use Rattle.hs_plain.specs.declared.state.FileBlocks.{FileBlocks}
use Rattle.hs_plain.specs.declared.state.Member.{Member}
use Rattle.hs_plain.specs.declared.state.State.{State}
use Rattle.hs_plain.specs.Files.{plain_files}
use Rattle.hs_plain.specs.Reading.{end_tree}
use Rattle.hs_plain.specs.Replay.{replay_from, plain_after}
use Rattle.hs_plain.specs.Valid.{IsValid}
use Rattle.hs_plain.specs.Viewed as viewed
use Rattle.report_laws.specs.Differing.{ids_in, FewDiffer}

-- the tick of a snapshot
abbrev pub copied_tick : {B : Type 0} → List (Member B) → SnapId → ℕ
copied_tick [] snapshot = 0
copied_tick (m ∷ ms) snapshot = if m.snapshot.0 == snapshot.0 then m.tick else copied_tick ms snapshot

-- the tick of one end of a report: that of the snapshot, or of the current state
abbrev pub end_tick : {B : Type 0} → State B → SnapId → ℕ
end_tick state end = if end.0 == 0 then state.tick else copied_tick state.members end

-- how many entries of the journal lie between the two ends
abbrev pub entries_between : {B : Type 0} → State B → SnapId → SnapId → ℕ
entries_between state from to = abs_diff (end_tick state from) (end_tick state to)

-- the live tree before and after entries of a journal
abbrev pub EntriesDifferLaw : Type 0
EntriesDifferLaw = (state : State (List ℕ)) (entries : List Entry) → IsValid state → FewDiffer (ids_in state.tree) (ids_in (replay_from plain_files state entries).tree) (2 * length entries)

-- the two ends of a report, in either order
abbrev pub AreEndsNear : {B : Type 0} → State B → Type 0
AreEndsNear state = (root : InodeId) (from to : SnapId) → FewDiffer (ids_in (end_tree state root from)) (ids_in (end_tree state root to)) (2 * entries_between state from to)

abbrev pub EndsDifferLaw : Type 0
EndsDifferLaw = (journal : List Entry) → AreEndsNear (plain_after journal)

-- the same of a state that keeps its files in blocks
abbrev pub WholeEndsDifferLaw : Type 0
WholeEndsDifferLaw = (journal : List Entry) (state : State FileBlocks) → viewed.StandsFor state (plain_after journal) → AreEndsNear state
