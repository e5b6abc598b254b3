-- What a change of a row needs, as snapshots in memory tell it.
use Rattle.std.specs.Prelude.{ℕ, if◌then◌else◌}
use Rattle.std.specs.List.{list_any}
use Rattle.hs_types.specs.declared.ids.SnapId.{SnapId}
use Rattle.snapshot_manager.specs.Snapshots.{Snapshots, is_between, live}

-- the cover, where a live id is above that number and at most the cover
abbrev pub needed : Snapshots → ℕ → SnapId → SnapId
needed snaps last cover = if list_any (λ p. is_between (record { 0 = last }) cover p.1.id) (live snaps) then cover else record { 0 = 0 }
