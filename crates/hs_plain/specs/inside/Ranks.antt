-- Where a path comes among the places of a tree.
use Rattle.std.specs.Prelude.{Bool, false, Option, Some, None}
use Rattle.std.specs.Ordering.{is_gt, is_eq}
use Rattle.hs_types.specs.Names.{Names}
use Rattle.hs_plain.specs.declared.state.Node.{Node}
use Rattle.hs_plain.specs.Tree.{path_cmp}

-- whether a path comes after a place
abbrev pub is_after : {B : Type 0} → Names → Names × Node B → Bool
is_after path place = is_gt (path_cmp path place.0)

-- whether a place is at a path
abbrev pub is_place_at : {B : Type 0} → Names → Option (Names × Node B) → Bool
is_place_at path None = false
is_place_at path (Some place) = is_eq (path_cmp path place.0)
