-- Places put in the order of paths, one after the other.
use Rattle.std.proofs.Common.{◌≡◌, Option, Some, None, List, [], ◌∷◌, map, refl, ap, sym, ◌∙◌}
use Rattle.std.specs.List.{zip}
use Rattle.std.specs.Option.{unwrap_or}
use Rattle.std.specs.FinMap.Entries.{put}
use Rattle.hs_types.specs.Names.{Names}
use Rattle.hs_plain.specs.declared.state.Node.{Node}
use Rattle.hs_plain.specs.Tree.{Tree, path_cmp}
use Rattle.hs_plain.specs.Change.{at_new, new_path, repath, put_all}

abbrev pub at_new_paths : {B : Type 0} → Tree B → List (Option Names) → Tree B
at_new_paths places paths = map (λ pair. at_new pair.0 pair.1) (zip places paths)

pub put_next : {B : Type 0} (sorted places more : Tree B) (paths others : List (Option Names)) (path to : Names) (node : Node B) (new_path : Option Names) →
    places ≡ (path, node) ∷ more → paths ≡ new_path ∷ others → to ≡ unwrap_or new_path path →
    put_all (put path_cmp to node sorted) (at_new_paths more others) ≡ put_all sorted (at_new_paths places paths)
put_next sorted places more paths others path to node new_path is_places is_paths is_to =
    ap (λ (names : Names). put_all (put path_cmp names node sorted) (at_new_paths more others)) is_to
    ∙ by new_path
    ∙ ap (λ (next : List (Option Names)). put_all sorted (at_new_paths ((path, node) ∷ more) next)) (sym is_paths)
    ∙ ap (λ (next : Tree _). put_all sorted (at_new_paths next paths)) (sym is_places)
  where
    by : (new : Option Names) → put_all (put path_cmp (unwrap_or new path) node sorted) (at_new_paths more others) ≡ put_all sorted (at_new_paths ((path, node) ∷ more) (new ∷ others))
    by None = refl
    by (Some names) = refl

-- each place with its new path, if it gets one
pub repathed : {B : Type 0} (places : Tree B) (old new : Names) → at_new_paths places (map (new_path old new) places) ≡ map (repath old new) places
repathed [] old new = refl
repathed (place ∷ places) old new = ap (λ (more : Tree _). repath old new place ∷ more) (repathed places old new)
