-- The ways up from rows, by spots that lists confirm.
use Rattle.std.specs.Prelude.{◌≡◌, ℕ, List, [], ◌∷◌, Some, ⊤}
use Rattle.std.specs.List.{IsDistinct}
use Rattle.hs_types.specs.declared.ids.InodeId.{InodeId}
use Rattle.hs_plain.specs.Tree.{same_inode}
use Rattle.dir_changes.specs.Entries.{id_at}
use Rattle.inode_table.specs.Reads.{Shown}

-- each row's spot names the next one, whose list names the row
abbrev pub LeadsUp : {B : Type 0} → Shown B → InodeId → List InodeId → Type 0
LeadsUp shown id [] = ⊤
LeadsUp shown id (parent ∷ chain) = (name : List ℕ) × (shown.spot id ≡ Some (record { parent = parent; name = name })) × (id_at name (shown.entries parent) ≡ Some id) × LeadsUp shown parent chain

-- the ids from a row up, none twice
pub record IsWayUp {B : Type 0} (shown : Shown B) (id : InodeId) (chain : List InodeId) : Type 0 where
  pub leads : LeadsUp shown id chain
  pub once : IsDistinct same_inode (id ∷ chain)
