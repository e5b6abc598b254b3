-- One step of a list that is made by going through another.
use Rattle.std.proofs.Common.{◌≡◌, ℕ, ◌+◌, ◌<◌, Option, Some, None, List, ◌∷◌, ◌++◌, drop, length, get_or, refl, ap, sym, ◌∙◌, append_assoc}
use Rattle.std.specs.List.{filter_map, flat_map, cons_option}
use Rattle.std.specs.Option.{option_to_list}
use Rattle.std.proofs.lemmas.List.{drop_more}

module _ {X Y : Type 0} (xs : List X) (i : ℕ) (x : X) (front : List Y) (lt : i < length xs) (is : x ≡ get_or xs i x) where
  next : drop i xs ≡ x ∷ drop (i + 1) xs
  next = drop_more xs i x lt ∙ ap (λ (y : X). y ∷ drop (i + 1) xs) (sym is)

  pub filter_map_step : (f : X → Option Y) → (front ++ option_to_list (f x)) ++ filter_map f (drop (i + 1) xs) ≡ front ++ filter_map f (drop i xs)
  filter_map_step f =
      append_assoc front (option_to_list (f x)) (filter_map f (drop (i + 1) xs))
      ∙ ap (λ (ys : List Y). front ++ ys) (by (f x))
      ∙ ap (λ (rest : List X). front ++ filter_map f rest) (sym next)
    where
      by : (o : Option Y) → option_to_list o ++ filter_map f (drop (i + 1) xs) ≡ cons_option o (filter_map f (drop (i + 1) xs))
      by None = refl
      by (Some y) = refl

  pub flat_map_step : (f : X → List Y) → (front ++ f x) ++ flat_map f (drop (i + 1) xs) ≡ front ++ flat_map f (drop i xs)
  flat_map_step f = append_assoc front (f x) (flat_map f (drop (i + 1) xs)) ∙ ap (λ (rest : List X). front ++ flat_map f rest) (sym next)
