-- A walk up by confirmed spots is a climb.
use Rattle.std.proofs.Common.{◌≡◌, true, false, cond, List, [], ◌∷◌, ◌++◌, Option, Some, None, refl, sym, ap, ◌∙◌}
use Rattle.hs_types.specs.declared.ids.InodeId.{InodeId}
use Rattle.hs_types.specs.declared.name.Spot.{Spot}
use Rattle.hs_plain.proofs.ValidShapes.{none_some, same_some}
use Rattle.dir_changes.specs.Entries.{id_at, is_that}
use Rattle.dir_changes.proofs.UndoLaw.{is_that_so}
use Rattle.inode_table.specs.Reads.{Shown}
use Rattle.inode_table.specs.Walk.{and_then}
use Rattle.path_resolver.specs.Rising.{spot_above}
use Rattle.report_laws.specs.Chains.{is_seen, Climbs}
use Rattle.report_laws.proofs.Climbing.{climb-goes_on}

module _ {B : Type 0} (shown : Shown B) where
  -- what a confirmed spot says
  record IsAbove (id : InodeId) (spot : Spot) : Type 0 where
    spot_is : shown.spot id ≡ Some spot
    listed : id_at spot.name (shown.entries spot.parent) ≡ Some id

  above_so : (id : InodeId) (spot : Spot) → spot_above shown id ≡ Some spot → IsAbove id spot
  above_so id spot h = by (shown.spot id) refl h
    where
      by : (o : Option Spot) → shown.spot id ≡ o → and_then o (λ p. cond (is_that id (id_at p.name (shown.entries p.parent))) (Some p) None) ≡ Some spot → IsAbove id spot
      by None e k = absurd (none_some k)
      by (Some p) e k = elim (is_that id (id_at p.name (shown.entries p.parent))) as (λ b. is_that id (id_at p.name (shown.entries p.parent)) ≡ b → cond b (Some p) None ≡ Some spot → IsAbove id spot) [
        | true ↦ λ t l. let same : p ≡ spot = same_some l in
            record { spot_is = e ∙ l; listed = ap (λ (q : Spot). id_at q.name (shown.entries q.parent)) (sym same) ∙ is_that_so id (id_at p.name (shown.entries p.parent)) t }
        | false ↦ λ _ l. absurd (none_some l)
      ] refl k

  -- one row further
  pub climb-above : (id here : InodeId) (seen : List InodeId) (spot : Spot) → Climbs shown id seen here → is_seen here seen ≡ false → spot_above shown here ≡ Some spot → Climbs shown id (seen ++ here ∷ []) spot.parent
  climb-above id here seen spot c new up = let above = above_so here spot up in climb-goes_on shown id here seen spot c new above.spot_is above.listed
