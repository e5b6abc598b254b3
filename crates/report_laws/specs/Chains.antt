-- How many rows a walk up looks at.
use Rattle.std.specs.Prelude.{◌≡◌, ℕ, ◌+◌, ◌≤◌, Bool, false, List, [], ◌∷◌, ◌++◌, length, Some}
use Rattle.std.specs.List.{list_any, IsDistinct}
use Rattle.hs_types.specs.declared.ids.InodeId.{InodeId}
use Rattle.hs_types.specs.declared.name.Spot.{Spot}
use Rattle.hs_plain.specs.declared.state.FileBlocks.{FileBlocks}
use Rattle.hs_plain.specs.Tree.{same_inode}
use Rattle.dir_changes.specs.Entries.{id_at}
use Rattle.inode_table.specs.Reads.{Shown}
use Rattle.inode_table.specs.WayUp.{LeadsUp, IsWayUp}

-- no chain has more rows, its first one counted
abbrev pub HasChainsWithin : {B : Type 0} → Shown B → ℕ → Type 0
HasChainsWithin shown h = (id : InodeId) (chain : List InodeId) → IsWayUp shown id chain → length (id ∷ chain) ≤ h

abbrev pub is_seen : InodeId → List InodeId → Bool
is_seen id seen = list_any (λ other. same_inode other id) seen

-- a walk up from a row has gone through these rows, none twice, and has come to a last one, which may be one of them
pub record Climbs {B : Type 0} (shown : Shown B) (id : InodeId) (seen : List InodeId) (here : InodeId) : Type 0 where
  pub chain : List InodeId
  pub rows : seen ++ here ∷ [] ≡ id ∷ chain
  pub leads : LeadsUp shown id chain
  pub once : IsDistinct same_inode seen

abbrev pub ClimbBeginsLaw : Type 0
ClimbBeginsLaw = (shown : Shown FileBlocks) (id : InodeId) → Climbs shown id [] id

-- one row further, from a row where it wasn't before
abbrev pub ClimbGoesOnLaw : Type 0
ClimbGoesOnLaw = (shown : Shown FileBlocks) (id here : InodeId) (seen : List InodeId) (spot : Spot)
    → Climbs shown id seen here → is_seen here seen ≡ false → shown.spot here ≡ Some spot → id_at spot.name (shown.entries spot.parent) ≡ Some here → Climbs shown id (seen ++ here ∷ []) spot.parent

-- the rows that it has gone through are no more than a chain has, and nor are they with the last one, where that is new
pub record IsWithin (seen : List InodeId) (here : InodeId) (h : ℕ) : Type 0 where
  pub rows : length seen ≤ h
  pub more : is_seen here seen ≡ false → length seen + 1 ≤ h

abbrev pub ClimbIsWithinLaw : Type 0
ClimbIsWithinLaw = (shown : Shown FileBlocks) (id here : InodeId) (seen : List InodeId) (h : ℕ) → Climbs shown id seen here → HasChainsWithin shown h → IsWithin seen here h

-- a row alone is a chain
abbrev pub ChainHasRowLaw : Type 0
ChainHasRowLaw = (shown : Shown FileBlocks) (h : ℕ) → HasChainsWithin shown h → 1 ≤ h
