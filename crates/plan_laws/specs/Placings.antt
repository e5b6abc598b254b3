-- The puts of a plan with the nodes that they bring, so that they may be done to a tree.
use Rattle.std.specs.Prelude.{◌++◌, ◌∷◌, [], if◌then◌else◌, List, Option, Some, None}
use Rattle.std.specs.List.{filter_map}
use Rattle.hs_types.specs.Names.{Names}
use Rattle.hs_plain.specs.declared.state.Node.{Node}
use Rattle.hs_plain.specs.declared.plan.Put.{Put}
use Rattle.hs_plain.specs.declared.plan.Put.TheVariants as puts
use Rattle.hs_plain.specs.Tree.{Tree, is_dir, parent_of, is_root_path, place_of}
use Rattle.hs_plain.specs.Report.{last_of, same_place}
use Rattle.hs_plain.specs.Plan.{outs, index_of}
use Rattle.plan_laws.specs.Sight.{Placing, Back, New}

-- what comes to a place of the second tree: what was moved out and has its place there, or a new directory
abbrev pub placing_by : {B : Type 0} → Tree B → Tree B → Names × Node B → Option (Names × Node B) → Option (Placing (Node B))
placing_by from to place None = if is_dir place.1 then Some (New place.1 (parent_of place.0) (last_of place.0)) else None
placing_by from to place (Some old) = if same_place from to old.0 place.0 then None else Some (Back (index_of (outs from to) old.0) (parent_of place.0) (last_of place.0))

abbrev pub placing_at : {B : Type 0} → Tree B → Tree B → Names × Node B → Option (Placing (Node B))
placing_at from to place = if is_root_path place.0 then None else placing_by from to place (place_of from place.1.id)

-- by rising path
abbrev pub placings : {B : Type 0} → Tree B → Tree B → List (Placing (Node B))
placings from to = filter_map (placing_at from to) to

-- the plan's put
abbrev pub as_put : {X : Type 0} → Placing X → Put
as_put (Back index above name) = puts.Back index (above ++ name ∷ [])
as_put (New node above name) = puts.NewDir (above ++ name ∷ [])
