-- What a namenode does to its table in one call. Needs and covers are those of the table before the call.
use Rattle.std.specs.Prelude.{ℕ, ◌+◌, List, [], ◌∷◌, Option, Some, None}
use Rattle.hs_types.specs.declared.ids.InodeId.{InodeId}
use Rattle.hs_types.specs.declared.name.Spot.{Spot}
use Rattle.hs_plain.specs.declared.state.Node.{Node}
use Rattle.hs_plain.specs.declared.state.State.{State}
use Rattle.hs_plain.specs.declared.state.FileBlocks.{FileBlocks}
use Rattle.snapshot_manager.specs.Snapshots.{Snapshots, disallowed, added}
use Rattle.inode_table.specs.declared.change.Change.{Change}
use Rattle.inode_table.specs.declared.change.Change.TheVariants as changes
use Rattle.inode_table.specs.Marks.{last_of, cover}
use Rattle.inode_table.specs.RowHistory.{Table, RowHistory, File, Dir, rows_at, marks_of, last_in, need}
use Rattle.inode_table.specs.Tabled.{Tabled, changed, inserted, marked_row}

-- a row of the live tree, and the ids from the root down to it
pub record Way : Type 0 where
  pub id : InodeId
  pub chain : List InodeId

abbrev pub way_to : Node FileBlocks → List InodeId → Way
way_to node chain = record { id = node.id; chain = chain }

abbrev pub last_number_of : Option RowHistory → ℕ
last_number_of None = 0
last_number_of (Some rows) = last_in rows

-- the cover of a row
abbrev pub cover_at : State FileBlocks → Table → List InodeId → ℕ
cover_at state table chain = cover (last_of state.members) (marks_of table) chain

-- the need of a row
abbrev pub need_at : State FileBlocks → Table → Way → ℕ
need_at state table way = need state.members (last_number_of (rows_at table way.id)) (cover_at state table way.chain)

-- a row changed at its need, with the next tick
abbrev pub with_change : State FileBlocks → Table → Way → Change → Tabled → Tabled
with_change state before way what t = changed way.id (need_at state before way) (state.tick + 1) what t

-- ---- the calls

-- another mode, or other bytes
abbrev pub touched : State FileBlocks → Way → Change → Tabled → Tabled
touched state way what t = with_change state t.rows way what t

-- a new row, and its entry; its marks are the greatest snapshot id issued and 0
abbrev pub made : State FileBlocks → ℕ → Way → List ℕ → InodeId → RowHistory → Tabled → Tabled
made state issued dir name id rows t = with_change state t.rows dir (changes.Add name id) (inserted id rows issued t)

-- an entry less; rows that no list names any more go afterwards
abbrev pub unlinked : State FileBlocks → Way → List ℕ → Tabled → Tabled
unlinked state dir name t = with_change state t.rows dir (changes.Remove name) t

-- a new row in the place of another: the entry of that out, then the new row and its entry
abbrev pub replaced : State FileBlocks → ℕ → Way → List ℕ → InodeId → RowHistory → Tabled → Tabled
replaced state issued dir name id rows t = with_change state t.rows dir (changes.Add name id) (inserted id rows issued (unlinked state dir name t))

-- an entry out and an entry in
abbrev pub relinked : State FileBlocks → Way → Way → List ℕ → List ℕ → InodeId → Tabled → Tabled
relinked state from to old_name new_name id t = with_change state t.rows to (changes.Add new_name id) (unlinked state from old_name t)

-- then the new spot
abbrev pub placed : State FileBlocks → Way → Way → Way → List ℕ → List ℕ → Tabled → Tabled
placed state from to node old_name new_name t = with_change state t.rows node (changes.Move (record { parent = to.id; name = new_name })) (relinked state from to old_name new_name node.id t)

-- and the marks: the greatest snapshot id issued, and the cover before the call
abbrev pub renamed : State FileBlocks → ℕ → Way → Way → Way → List ℕ → List ℕ → Tabled → Tabled
renamed state issued from to node old_name new_name t = marked_row node.id issued (cover_at state t.rows node.chain) (placed state from to node old_name new_name t)

-- ---- new rows

-- an empty directory, as the plain machine makes it
abbrev pub dir_rows : Spot → ℕ → RowHistory
dir_rows spot tick = Dir (record { marks = record { spot = spot; mode = 493; stamp = tick }; children = []; records = [] })

-- a file
abbrev pub file_rows : Spot → FileBlocks → ℕ → RowHistory
file_rows spot file tick = File (record { current = record { spot = spot; mode = 420; stamp = tick; size = file.size; blocks = file.blocks }; records = [] })

-- ---- snapshots

-- these directories are no longer snapshottable
abbrev pub all_disallowed : List InodeId → Snapshots → Snapshots
all_disallowed [] snaps = snaps
all_disallowed (id ∷ ids) snaps = all_disallowed ids (disallowed id snaps)

-- one snapshot more, with the next id and the next tick
abbrev pub with_snapshot : State FileBlocks → InodeId → List ℕ → Snapshots → Snapshots
with_snapshot state dir name snaps = added dir (record { id = record { 0 = state.next_snapshot }; tick = state.tick + 1; name = name }) snaps
