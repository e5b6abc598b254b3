-- Snapshots of a directory, one after another.
use Rattle.std.proofs.Common.{◌≡◌, ℕ, ◌<◌, ◌≤◌, List, [], ◌∷◌, map, Option, Some, None, refl, arith}
use Rattle.std.specs.List.{AllByRecursion}
use Rattle.hs_types.specs.declared.ids.InodeId.{InodeId}
use Rattle.hs_types.specs.declared.name.SnapItem.{SnapItem}
use Rattle.snapshot_manager.specs.Snapshots.{Snapshots, IsProper, IdsRise, snaps_of, snaps_in}
use Rattle.snapshot_manager.proofs.Histories.{history_of}
use Rattle.path_resolver.proofs.Later.{later, all_later}

abbrev pub id_of : SnapItem → ℕ
id_of item = item.id.0

module _ (snaps : Snapshots) (proper : IsProper snaps) (dir : InodeId) where
  pub rises : IdsRise (snaps_in snaps dir)
  rises = by (snaps_of snaps dir) refl
    where
      by : (o : Option (List SnapItem)) → snaps_of snaps dir ≡ o → IdsRise (snaps_in snaps dir)
      by None e = rw e tt
      by (Some items) e = rw e (history_of snaps dir items proper e).rise

  -- each is later than 0
  pub all_above : later id_of 0 (snaps_in snaps dir) ≡ snaps_in snaps dir
  all_above = by (snaps_of snaps dir) refl
    where
      above : (n : ℕ) (items : List SnapItem) → AllByRecursion (λ item. (0 < item.id.0) × (item.id.0 ≤ n)) items → AllByRecursion (λ m. 0 < m) (map id_of items)
      above n [] all = tt
      above n (item ∷ items) all = (all.0.0, above n items all.1)

      by : (o : Option (List SnapItem)) → snaps_of snaps dir ≡ o → later id_of 0 (snaps_in snaps dir) ≡ snaps_in snaps dir
      by None e = rw e refl
      by (Some items) e = rw e (all_later id_of 0 0 items (omega arith) (above snaps.issued.0 items (history_of snaps dir items proper e).in_range))
