-- Moves don't look at what they move.
use Rattle.std.proofs.Common.{◌≡◌, ℕ, ◌+◌, Bool, Option, Some, None, is_some, List, [], ◌∷◌, ◌++◌, map, refl, ap, subst, ◌∙◌}
use Rattle.std.specs.Option.{option_map}
use Rattle.hs_types.specs.Names.{Names}
use Rattle.hs_plain.specs.Plan.{rest_below}
use Rattle.plan_laws.specs.Sight.{Sight, inside_or, moved_sight, at_top, made_sight, Goes, Makes, outs_done, OutsGo, Placing, Back, New, puts_done, map_put, PutsGo}

module _ {X Y : Type 0} (f : X → Y) where
  abbrev pub through : Sight X → Sight Y
  through sight path = option_map f (sight path)

  inside-through : (o : Option Names) (inside : Sight X) (outside : Option X) → option_map f (inside_or o inside outside) ≡ inside_or o (λ rest. option_map f (inside rest)) (option_map f outside)
  inside-through None inside outside = refl
  inside-through (Some rest) inside outside = refl

  none-through : (o : Option Names) (outside : Option X) → option_map f (inside_or o (λ rest. None) outside) ≡ inside_or o (λ rest. None) (option_map f outside)
  none-through None outside = refl
  none-through (Some rest) outside = refl

  moved-at : (s : Sight X) (old new q : Names) → option_map f (moved_sight s old new q) ≡ moved_sight (through s) old new q
  moved-at s old new q =
      inside-through (rest_below new q) (λ rest. s (old ++ rest)) (inside_or (rest_below old q) (λ rest. None) (s q))
      ∙ ap (λ (o : Option Y). inside_or (rest_below new q) (λ rest. option_map f (s (old ++ rest))) o) (none-through (rest_below old q) (s q))

  pub moved-through : (s : Sight X) (old new : Names) → through (moved_sight s old new) ≡ moved_sight (through s) old new
  moved-through s old new = λ i q. moved-at s old new q i

  top-through : (o : Option Names) (node : X) (seen : Option X) → option_map f (inside_or o (at_top node seen) seen) ≡ inside_or o (at_top (f node) (option_map f seen)) (option_map f seen)
  top-through None node seen = refl
  top-through (Some []) node seen = refl
  top-through (Some (n ∷ rest)) node seen = refl

  pub made-through : (s : Sight X) (at : Names) (node : X) → through (made_sight s at node) ≡ made_sight (through s) at (f node)
  made-through s at node = λ i q. top-through (rest_below at q) node (s q) i

  pub outs-through : (tmp : List ℕ) (number : ℕ → List ℕ) (paths : List Names) (s : Sight X) (k : ℕ) → through (outs_done tmp number s k paths) ≡ outs_done tmp number (through s) k paths
  outs-through tmp number [] s k = refl
  outs-through tmp number (p ∷ ps) s k =
      outs-through tmp number ps (moved_sight s p (tmp ∷ number k ∷ [])) (k + 1)
      ∙ ap (λ (t : Sight Y). outs_done tmp number t (k + 1) ps) (moved-through s p (tmp ∷ number k ∷ []))

  pub puts-through : (tmp : List ℕ) (number : ℕ → List ℕ) (puts : List (Placing X)) (s : Sight X) → through (puts_done tmp number s puts) ≡ puts_done tmp number (through s) (map (map_put f) puts)
  puts-through tmp number [] s = refl
  puts-through tmp number (Back i above name ∷ puts) s =
      puts-through tmp number puts (moved_sight s (tmp ∷ number i ∷ []) (above ++ name ∷ []))
      ∙ ap (λ (t : Sight Y). puts_done tmp number t (map (map_put f) puts)) (moved-through s (tmp ∷ number i ∷ []) (above ++ name ∷ []))
  puts-through tmp number (New node above name ∷ puts) s =
      puts-through tmp number puts (made_sight s (above ++ name ∷ []) node)
      ∙ ap (λ (t : Sight Y). puts_done tmp number t (map (map_put f) puts)) (made-through s (above ++ name ∷ []) node)

  some-through : (o : Option X) → is_some (option_map f o) ≡ is_some o
  some-through None = refl
  some-through (Some x) = refl

  module _ (is_dir : X → Bool) (is_dir_too : Y → Bool) (kinds : (x : X) → is_dir_too (f x) ≡ is_dir x) where
    pub goes-through : (s : Sight X) (old above : Names) (name : List ℕ) → Goes is_dir s old above name → Goes is_dir_too (through s) old above name
    goes-through s old above name go = record {
      there = some-through (s old) ∙ go.there;
      above_dir = (f go.above_dir.0, ap (option_map f) go.above_dir.1, kinds go.above_dir.0 ∙ go.above_dir.2);
      free = ap (option_map f) go.free;
    }

    pub makes-through : (s : Sight X) (above : Names) (name : List ℕ) → Makes is_dir s above name → Makes is_dir_too (through s) above name
    makes-through s above name go = record {
      above_dir = (f go.above_dir.0, ap (option_map f) go.above_dir.1, kinds go.above_dir.0 ∙ go.above_dir.2);
      free = ap (option_map f) go.free;
    }

    pub outs-go-through : (tmp : List ℕ) (number : ℕ → List ℕ) (paths : List Names) (s : Sight X) (k : ℕ) → OutsGo is_dir tmp number s k paths → OutsGo is_dir_too tmp number (through s) k paths
    outs-go-through tmp number [] s k go = tt
    outs-go-through tmp number (p ∷ ps) s k go = (
      goes-through s p (tmp ∷ []) (number k) go.0,
      subst (λ (t : Sight Y). OutsGo is_dir_too tmp number t (k + 1) ps) (moved-through s p (tmp ∷ number k ∷ [])) (outs-go-through tmp number ps (moved_sight s p (tmp ∷ number k ∷ [])) (k + 1) go.1),
    )

    pub puts-go-through : (tmp : List ℕ) (number : ℕ → List ℕ) (puts : List (Placing X)) (s : Sight X) → PutsGo is_dir tmp number s puts → PutsGo is_dir_too tmp number (through s) (map (map_put f) puts)
    puts-go-through tmp number [] s go = tt
    puts-go-through tmp number (Back i above name ∷ puts) s go = (
      goes-through s (tmp ∷ number i ∷ []) above name go.0,
      subst (λ (t : Sight Y). PutsGo is_dir_too tmp number t (map (map_put f) puts)) (moved-through s (tmp ∷ number i ∷ []) (above ++ name ∷ [])) (puts-go-through tmp number puts (moved_sight s (tmp ∷ number i ∷ []) (above ++ name ∷ [])) go.1),
    )
    puts-go-through tmp number (New node above name ∷ puts) s go = (
      makes-through s above name go.0,
      subst (λ (t : Sight Y). PutsGo is_dir_too tmp number t (map (map_put f) puts)) (made-through s (above ++ name ∷ []) node) (puts-go-through tmp number puts (made_sight s (above ++ name ∷ []) node) go.1),
    )
