-- Going up from an inode at a snapshot, in steps, and the place that it leads to.
use Rattle.std.proofs.Common.{◌≡◌, ℕ, suc, ◌+◌, ◌<◌, Bool, true, false, cond, List, [], ◌∷◌, ◌++◌, reverse, Option, Some, None, refl, sym, ap, ◌∙◌, append_assoc, append-nil, length, arith}
use Rattle.std.specs.Prelude.{is_some}
use Rattle.std.specs.Option.{option_map}
use Rattle.std.specs.FinMap.Entries.{is_sorted}
use Rattle.std.proofs.lemmas.List.{reverse-append}
use Rattle.hs_types.specs.Names.{Names}
use Rattle.hs_types.specs.declared.ids.InodeId.{InodeId}
use Rattle.hs_types.specs.declared.name.Spot.{Spot}
use Rattle.hs_plain.specs.declared.state.Node.{Node}
use Rattle.hs_plain.specs.declared.state.State.{State}
use Rattle.hs_plain.specs.declared.state.FileBlocks.{FileBlocks}
use Rattle.hs_plain.specs.Tree.{Tree, path_cmp, node_at, place_of, path_at, same_inode}
use Rattle.hs_plain.proofs.Trees.{place_so, place_there}
use Rattle.hs_plain.proofs.ValidHeld.{found_place}
use Rattle.hs_plain.proofs.ValidShapes.{none_some}
use Rattle.dir_changes.specs.Entries.{id_at, is_that}
use Rattle.snapshot_manager.specs.Snapshots.{Snapshots}
use Rattle.inode_table.specs.Climb.{below_spot, path_up, Ups}
use Rattle.inode_table.specs.Reads.{Shown, Nodes, ReadsAs, IsNodes, child, id_of}
use Rattle.inode_table.specs.RowHistory.{shown}
use Rattle.inode_table.specs.Tabled.{Tabled}
use Rattle.inode_table.specs.Walk.{and_then}
use Rattle.inode_table.specs.Whole.{StandsFor}
use Rattle.inode_table.proofs.Climbing.{climbs}
use Rattle.inode_table.proofs.Covers.{some_id}
use Rattle.inode_table.proofs.Reading.{same_id_so}
use Rattle.path_resolver.specs.Rising.{spot_above, way_down}
use Rattle.path_resolver.proofs.Under.{few-below}

-- ---- steps

module _ {B : Type 0} (shown : Shown B) (top : InodeId) where
  abbrev step : ℕ → Option Spot → Option Names
  step n o = and_then o (λ spot. option_map (below_spot spot) (path_up shown top n spot.parent))

  -- a step by the confirmed spot
  through : (n : ℕ) (id : InodeId) → and_then (shown.spot id) (λ spot. cond (is_that id (id_at spot.name (shown.entries spot.parent))) (option_map (below_spot spot) (path_up shown top n spot.parent)) None) ≡ step n (spot_above shown id)
  through n id = by (shown.spot id)
    where
      by : (o : Option Spot) → and_then o (λ spot. cond (is_that id (id_at spot.name (shown.entries spot.parent))) (option_map (below_spot spot) (path_up shown top n spot.parent)) None)
          ≡ step n (and_then o (λ spot. cond (is_that id (id_at spot.name (shown.entries spot.parent))) (Some spot) None))
      by None = refl
      by (Some spot) = elim (is_that id (id_at spot.name (shown.entries spot.parent))) as (λ b. cond b (option_map (below_spot spot) (path_up shown top n spot.parent)) None ≡ step n (cond b (Some spot) None)) [
        | true ↦ refl
        | false ↦ refl
      ]

  more : (n : ℕ) (id : InodeId) → path_up shown top (n + 1) id ≡ cond (same_inode id top) (Some []) (step n (spot_above shown id))
  more n id = ap (λ k. path_up shown top k id) {x = n + 1} {y = suc n} (omega arith) ∙ ap (cond (same_inode id top) (Some [])) (through n id)

  -- it is come to
  pub up-here : (n : ℕ) (id : InodeId) → same_inode id top ≡ true → path_up shown top (n + 1) id ≡ Some []
  up-here n id same = more n id ∙ ap (λ b. cond b (Some []) (step n (spot_above shown id))) same

  -- a step more
  pub up-on : (n : ℕ) (id : InodeId) (spot : Spot) → same_inode id top ≡ false → spot_above shown id ≡ Some spot → path_up shown top (n + 1) id ≡ option_map (below_spot spot) (path_up shown top n spot.parent)
  up-on n id spot other up = more n id ∙ ap (λ b. cond b (Some []) (step n (spot_above shown id))) other ∙ ap (step n) up

  -- no step more
  pub up-last : (n : ℕ) (id : InodeId) → same_inode id top ≡ false → spot_above shown id ≡ None → path_up shown top (n + 1) id ≡ None
  up-last n id other up = more n id ∙ ap (λ b. cond b (Some []) (step n (spot_above shown id))) other ∙ ap (step n) up

  -- none is left
  pub up-out : (id : InodeId) → same_inode id top ≡ false → path_up shown top (0 + 1) id ≡ None
  up-out id other = more 0 id ∙ ap (λ b. cond b (Some []) (step 0 (spot_above shown id))) other ∙ none (spot_above shown id)
    where
      none : (o : Option Spot) → step 0 o ≡ None
      none None = refl
      none (Some spot) = refl

-- ---- loops

pub some-mapped : {X Y : Type 0} (f : X → Y) (o : Option X) → is_some (option_map f o) ≡ is_some o
some-mapped f None = refl
some-mapped f (Some x) = refl

-- the names so far, last one first, behind what is still to come
abbrev pub with_names : Names → Option Names → Option Names
with_names names o = option_map (λ (path : Names). path ++ reverse names) o

pub one-more : (names : Names) (spot : Spot) (o : Option Names) → with_names (names ++ spot.name ∷ []) o ≡ with_names names (option_map (below_spot spot) o)
one-more names spot None = refl
one-more names spot (Some path) = ap (λ (p : Names). Some p) (ap (λ (r : Names). path ++ r) (turn names spot.name) ∙ sym (append_assoc path (spot.name ∷ []) (reverse names)))
  where
    turn : (names : Names) (name : List ℕ) → reverse (names ++ name ∷ []) ≡ name ∷ reverse names
    turn names name = reverse-append names (name ∷ [])

-- ---- the place of an inode

module _ (table : Tabled) (snaps : Snapshots) (state : State FileBlocks) (all : StandsFor table snaps state) where
  module _ (s : ℕ) (top : InodeId) (f : Nodes FileBlocks) (is : IsNodes f) (reads : ReadsAs (shown table.rows s) top f) where
    ups : Ups (shown table.rows s) top f
    ups = climbs (shown table.rows s) top f is reads

    -- the way down to an inode leads to it
    pub way-leads : (id : InodeId) (path : Names) → way_down table s top id ≡ Some path → id_of (f path) ≡ Some id
    way-leads id path e = ups.leads (table.greatest + 1) id path e

    -- and is found for each node
    pub way-finds : (path : Names) (node : Node FileBlocks) → f path ≡ Some node → way_down table s top node.id ≡ Some path
    way-finds path node at = ups.finds path node (table.greatest + 1) at (few-below table snaps state all s top f is reads path node at)

  module _ (s : ℕ) (top : InodeId) (tree : Tree FileBlocks) (sorted : is_sorted path_cmp tree ≡ true) (is : IsNodes (node_at tree)) (reads : ReadsAs (shown table.rows s) top (node_at tree)) where
    -- so it is the path of the inode's place
    pub way-path : (id : InodeId) → way_down table s top id ≡ path_at (place_of tree id)
    way-path id = by (place_of tree id) refl (way_down table s top id) refl
      where
        by : (o : Option (Names × Node FileBlocks)) → place_of tree id ≡ o → (w : Option Names) → way_down table s top id ≡ w → way_down table s top id ≡ path_at o
        by (Some place) e w d =
            let at = place_so tree id place e in
            ap (way_down table s top) (sym (same_id_so place.1.id id at.1)) ∙ way-finds s top (node_at tree) is reads place.0 place.1 (found_place tree sorted place at.0)
        by None e None d = d
        by None e (Some path) d =
            let n = some_id (node_at tree path) id (way-leads s top (node_at tree) is reads id path d) in
            absurd (none_some (sym e ∙ place_there tree sorted (λ p q a b at bt same. is.once p q a b at bt (same_id_so a.id b.id same)) id path n.0 n.1 (ap (λ (i : InodeId). i.0) n.2)))
