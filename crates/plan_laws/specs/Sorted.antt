-- A list of a plan by rising paths, from its members in any order.
use Rattle.std.specs.Prelude.{◌≡◌, Bool, true, false, ◌||◌, List, [], ◌∷◌, Option, Some, None}
use Rattle.std.specs.List.{filter_map, AllByRecursion}
use Rattle.std.specs.Option.{option_map}
use Rattle.std.specs.Ordering.{eq_by_cmp}
use Rattle.std.specs.FinMap.Entries.{put}
use Rattle.hs_types.specs.Names.{Names}
use Rattle.hs_plain.specs.declared.state.Node.{Node}
use Rattle.hs_plain.specs.Tree.{Tree, path_cmp, node_at}

abbrev pub put_entries : {V : Type 0} → List (Names × V) → List (Names × V) → List (Names × V)
put_entries sorted [] = sorted
put_entries sorted (one ∷ more) = put_entries (put path_cmp one.0 one.1 sorted) more

abbrev pub has_path : {V : Type 0} → List (Names × V) → Names → Bool
has_path [] path = false
has_path (one ∷ more) path = eq_by_cmp path_cmp path one.0 || has_path more path

module _ {B V : Type 0} (f : Names × Node B → Option V) where
  abbrev pub look_by : Names → Option (Node B) → Option V
  look_by path None = None
  look_by path (Some node) = f (path, node)

  abbrev pub look : Tree B → Names → Option V
  look tree path = look_by path (node_at tree path)

  abbrev pub entry : Names × Node B → Option (Names × V)
  entry place = option_map (λ v. (place.0, v)) (f place)

  abbrev pub entries : Tree B → List (Names × V)
  entries tree = filter_map entry tree

  -- all that a tree's places give, in any order
  pub record IsListing (tree : Tree B) (list : List (Names × V)) : Type 0 where
    pub sound : AllByRecursion (λ one. look tree one.0 ≡ Some one.1) list
    pub complete : (path : Names) (v : V) → look tree path ≡ Some v → has_path list path ≡ true
