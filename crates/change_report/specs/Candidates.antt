-- Which rows a report looks at.
use Rattle.std.specs.Prelude.{ℕ, ◌-◌, ◌^◌, ◌==◌, if◌then◌else◌, Option, Some, None}
use Rattle.hs_types.specs.declared.ids.InodeId.{InodeId}
use Rattle.hs_types.specs.declared.ids.SnapId.{SnapId}
use Rattle.hs_types.specs.declared.name.SnapItem.{SnapItem}
use Rattle.snapshot_manager.specs.Snapshots.{Snapshots, live_at}

abbrev pub tick_or_last : Option (InodeId × SnapItem) → ℕ
tick_or_last None = 2 ^ 64 - 1
tick_or_last (Some live) = live.1.tick

-- the tick of a live snapshot; that of the current state is above all
abbrev pub tick_at : Snapshots → SnapId → ℕ
tick_at snaps end = if end.0 == 0 then 2 ^ 64 - 1 else tick_or_last (live_at snaps end)
