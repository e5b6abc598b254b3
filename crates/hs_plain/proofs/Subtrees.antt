-- A subtree, place by place.
use Rattle.std.proofs.Common.{◌≡◌, ℕ, ◌+◌, ◌<◌, Bool, true, false, cond, [], ◌∷◌, ◌++◌, map, drop, length, get_or, refl, ap, sym, ◌∙◌, append_assoc}
use Rattle.std.specs.List.{filter}
use Rattle.std.proofs.lemmas.List.{drop_more}
use Rattle.hs_types.specs.Names.{Names}
use Rattle.hs_plain.specs.declared.state.Node.{Node}
use Rattle.hs_plain.specs.Tree.{Tree, is_under, subtree}

module _ {B : Type 0} (path : Names) where
  subtree-cons : (place : Names × Node B) (places : Tree B) → subtree (place ∷ places) path ≡ subtree (place ∷ []) path ++ subtree places path
  subtree-cons place places = by (is_under path place)
    where
      below : Names × Node B → Names × Node B
      below at = (drop (length path) at.0, at.1)

      by : (under : Bool) → map (λ at. (drop (length path) at.0, at.1)) (cond under (place ∷ filter (is_under path) places) (filter (is_under path) places)) ≡ map (λ at. (drop (length path) at.0, at.1)) (cond under (place ∷ []) []) ++ subtree places path
      by true = refl
      by false = refl

  pub subtree_step : (tree : Tree B) (i : ℕ) (place : Names × Node B) (front : Tree B) → i < length tree → place ≡ get_or tree i place →
      (front ++ subtree (place ∷ []) path) ++ subtree (drop (i + 1) tree) path ≡ front ++ subtree (drop i tree) path
  subtree_step tree i place front lt is =
      append_assoc front (subtree (place ∷ []) path) (subtree (drop (i + 1) tree) path)
      ∙ ap (λ (rest : Tree B). front ++ rest) (sym (subtree-cons place (drop (i + 1) tree)))
      ∙ ap (λ (rest : Tree B). front ++ subtree rest path) (sym (drop_more tree i place lt ∙ ap (λ (at : Names × Node B). at ∷ drop (i + 1) tree) (sym is)))
