-- What snapshots in memory say of the cursor of a report. For proofs: contracts of calls speak of the plain state's replies.
use Rattle.std.specs.Prelude.{ℕ, Bool, false, not, ◌&&◌, ◌||◌, ◌==◌, Option, Some, None, is_some}
use Rattle.hs_types.specs.declared.ids.InodeId.{InodeId}
use Rattle.hs_types.specs.declared.ids.SnapId.{SnapId}
use Rattle.hs_types.specs.declared.name.SnapItem.{SnapItem}
use Rattle.hs_types.specs.declared.refusal.Refusal.TheVariants.{NotSnapshottable, NoSnapshot, Gone, Moved}
use Rattle.hs_types.specs.declared.call.ReportCursor.{ReportCursor}
use Rattle.hs_plain.specs.Asked.{Asked, ◌>>=◌, refuse_if}
use Rattle.hs_plain.specs.Reading.{began_at}
use Rattle.snapshot_manager.specs.Snapshots.{Snapshots, snaps_of, live_at}

-- whether an id is no live snapshot's; 0 is the current state
abbrev pub is_lost : Snapshots → SnapId → Bool
is_lost snaps snapshot = not (snapshot.0 == 0) && not (is_some (live_at snaps snapshot))

-- whether a snapshot that was looked up is of this directory
abbrev pub is_own : InodeId → Option (InodeId × SnapItem) → Bool
is_own root None = false
is_own root (Some found) = found.0.0 == root.0

-- whether an end is no snapshot of this directory
abbrev pub is_foreign : Snapshots → InodeId → SnapId → Bool
is_foreign snaps root end = not (end.0 == 0) && not (is_own root (live_at snaps end))

-- whether the current state is an end of a report that began at another tick
abbrev pub has_moved : ℕ → ReportCursor → Bool
has_moved now cursor = (cursor.from.0 == 0 || cursor.to.0 == 0) && not (began_at now cursor.tick == now)

-- whether the report of a cursor goes on
abbrev pub goes_on : Snapshots → ℕ → ReportCursor → Asked (Unit {0})
goes_on snaps now cursor = do
  live ← refuse_if (is_lost snaps cursor.from || is_lost snaps cursor.to) Gone
  there ← refuse_if (not (is_some (snaps_of snaps cursor.root))) NotSnapshottable
  own ← refuse_if (is_foreign snaps cursor.root cursor.from || is_foreign snaps cursor.root cursor.to) NoSnapshot
  refuse_if (has_moved now cursor) (Moved (began_at now cursor.tick) now)
