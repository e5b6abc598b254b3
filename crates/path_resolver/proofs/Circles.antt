-- Going up from rows that were seen before comes to no end.
use Rattle.std.proofs.Common.{◌≡◌, ◌⊎◌, inl, inr, ℕ, zero, suc, ◌+◌, Bool, true, false, cond, List, [], ◌∷◌, ◌++◌, Option, Some, None, refl, sym, ap, subst, ◌∙◌, arith}
use Rattle.std.specs.Option.{option_map}
use Rattle.std.specs.List.{list_any}
use Rattle.hs_types.specs.Names.{Names}
use Rattle.hs_types.specs.declared.ids.InodeId.{InodeId}
use Rattle.hs_types.specs.declared.name.Spot.{Spot}
use Rattle.hs_plain.specs.Tree.{same_inode}
use Rattle.hs_plain.proofs.ValidLists.{In, by_push, in-left, in-last, any_so}
use Rattle.hs_plain.proofs.ValidMembers.{inode_so}
use Rattle.inode_table.specs.Reads.{Shown}
use Rattle.inode_table.specs.Climb.{below_spot, path_up}
use Rattle.path_resolver.specs.Rising.{spot_above}
use Rattle.path_resolver.proofs.Climbs.{up-on}

module _ {B : Type 0} (shown : Shown B) (top : InodeId) where
  -- a row that isn't the top, and leads up to one of these, or to here
  pub record Leaves (seen : List InodeId) (here id : InodeId) : Type 0 where
    pub spot : Spot
    pub other : same_inode id top ≡ false
    pub up : spot_above shown id ≡ Some spot
    pub on : In seen spot.parent ⊎ (spot.parent ≡ here)

  -- the rows that were gone through on the way here
  abbrev pub AreSeen : List InodeId → InodeId → Type 0
  AreSeen seen here = (id : InodeId) → In seen id → Leaves seen here id

  pub seen-more : (seen : List InodeId) (here : InodeId) (spot : Spot) → same_inode here top ≡ false → spot_above shown here ≡ Some spot → AreSeen seen here → AreSeen (seen ++ here ∷ []) spot.parent
  seen-more seen here spot other up are id at = by_push seen here id at
      (λ before. let l = are id before in record { spot = l.spot; other = l.other; up = l.up; on = still l.on })
      (λ same. subst (Leaves (seen ++ here ∷ []) spot.parent) same (record { spot = spot; other = other; up = up; on = inr refl }))
    where
      still : {parent : InodeId} → In seen parent ⊎ (parent ≡ here) → In (seen ++ here ∷ []) parent ⊎ (parent ≡ spot.parent)
      still {parent} (inl before) = inl (in-left seen (here ∷ []) parent before)
      still {parent} (inr same) = inl (subst (In (seen ++ here ∷ [])) (sym same) (in-last seen here))

  -- where here is one of them, none of them leads to the top
  around : (seen : List InodeId) (here : InodeId) → In seen here → AreSeen seen here → (n : ℕ) (id : InodeId) → In seen id → path_up shown top n id ≡ None
  around seen here again are zero id at = refl
  around seen here again are (suc n) id at =
      let l = are id at in
      ap (λ k. path_up shown top k id) {x = suc n} {y = n + 1} (omega arith) ∙ up-on shown top n id l.spot l.other l.up
      ∙ ap (option_map (below_spot l.spot)) (around seen here again are n l.spot.parent (within l.on))
    where
      within : {parent : InodeId} → In seen parent ⊎ (parent ≡ here) → In seen parent
      within (inl before) = before
      within (inr same) = subst (In seen) (sym same) again

  pub no-way : (seen : List InodeId) (here : InodeId) → list_any (λ id. same_inode id here) seen ≡ true → AreSeen seen here → (n : ℕ) → path_up shown top n here ≡ None
  no-way seen here again are n = let one = any_so (λ id. same_inode id here) seen again in
      let at : In seen here = subst (In seen) (inode_so one.0 here one.2) one.1 in around seen here at are n here at
