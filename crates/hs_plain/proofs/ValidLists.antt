-- The elements of a list: what tests say of each, and what a filter, a map and one more leave.
use Rattle.std.proofs.Common.{◌≡◌, ◌⊎◌, inl, inr, ℕ, Bool, true, false, cond, List, [], ◌∷◌, ◌++◌, map, Option, Some, None, refl, sym, ap, subst, ◌∙◌}
use Rattle.std.specs.Prelude.{not, ◌||◌, ◌==◌}
use Rattle.std.specs.List.{list_any, list_all, filter, filter_map, cons_option, flat_map, Contains}
use Rattle.std.proofs.lemmas.List.Elements.{Contains-append_left, Contains-append_right, Contains-push, All-contains, All-cons, All-nil, All-weaker}
use Rattle.std.specs.List.{All}
use Rattle.hs_plain.specs.Valid.{all_differ}
use Rattle.hs_plain.proofs.ValidTrees.{both, first, second}
use Rattle.hs_plain.proofs.ValidShapes.{true_false}

-- an element of a list
abbrev pub In : {X : Type 0} → List X → X → Type 0
In [] x = ⊥
In (y ∷ ys) x = (y ≡ x) ⊎ In ys x

-- ---- tests

pub neither : {a b : Bool} → a ≡ false → b ≡ false → (a || b) ≡ false
neither {a} {b} h g = ap (λ x. x || b) h ∙ g

pub neither_first : (a b : Bool) → (a || b) ≡ false → a ≡ false
neither_first true b h = cc
neither_first false b h = refl

pub neither_second : (a b : Bool) → (a || b) ≡ false → b ≡ false
neither_second true b h = cc
neither_second false b h = h

-- by what a test says
pub by_test : {P : Type 0} (b : Bool) → (b ≡ true → P) → (b ≡ false → P) → P
by_test true passes fails = passes refl
by_test false passes fails = fails refl

pub false_by : (b : Bool) → (b ≡ true → ⊥) → b ≡ false
false_by true h = absurd (h refl)
false_by false h = refl

pub not_so : (b : Bool) → not b ≡ true → b ≡ false
not_so true h = cc
not_so false h = refl

-- ---- elements

module _ {X : Type 0} where
  pub in-left : (xs ys : List X) (x : X) → In xs x → In (xs ++ ys) x
  in-left [] ys x at = absurd at
  in-left (z ∷ zs) ys x (inl e) = inl e
  in-left (z ∷ zs) ys x (inr at) = inr (in-left zs ys x at)

  pub in-right : (xs ys : List X) (x : X) → In ys x → In (xs ++ ys) x
  in-right [] ys x at = at
  in-right (z ∷ zs) ys x at = inr (in-right zs ys x at)

  pub by_append : {P : Type 0} (xs ys : List X) (x : X) → In (xs ++ ys) x → (In xs x → P) → (In ys x → P) → P
  by_append [] ys x at left right = right at
  by_append (z ∷ zs) ys x (inl e) left right = left (inl e)
  by_append (z ∷ zs) ys x (inr at) left right = by_append zs ys x at (λ before. left (inr before)) right

  -- an element of a list with one more
  pub by_push : {P : Type 0} (xs : List X) (y x : X) → In (xs ++ y ∷ []) x → (In xs x → P) → (y ≡ x → P) → P
  by_push {P} xs y x at left right = by_append xs (y ∷ []) x at left only
    where
      only : In (y ∷ []) x → P
      only (inl e) = right e
      only (inr none) = absurd none

  pub in-last : (xs : List X) (x : X) → In (xs ++ x ∷ []) x
  in-last xs x = in-right xs (x ∷ []) x (inl refl)

  pub contains-in : (xs : List X) (x : X) → In xs x → Contains xs x
  contains-in [] x at = absurd at
  contains-in (y ∷ ys) x (inl e) = subst (λ z. Contains (z ∷ ys) x) (sym e) (Contains-append_left (x ∷ []) ys x (Contains-push [] x))
  contains-in (y ∷ ys) x (inr at) = Contains-append_right (y ∷ []) ys x (contains-in ys x at)

  all_in : (xs : List X) → All (In xs) xs
  all_in [] = All-nil (In [])
  all_in (y ∷ ys) = All-cons (In (y ∷ ys)) y ys (inl refl) (All-weaker (In ys) (In (y ∷ ys)) (λ x at. inr at) ys (all_in ys))

  pub in-contains : (xs : List X) (x : X) → Contains xs x → In xs x
  in-contains xs x at = All-contains (In xs) xs x (all_in xs) at

  module _ (p : X → Bool) where
    pub all_so : (xs : List X) → list_all p xs ≡ true → (x : X) → In xs x → p x ≡ true
    all_so [] h x at = absurd at
    all_so (y ∷ ys) h x (inl e) = ap p (sym e) ∙ first (p y) _ h
    all_so (y ∷ ys) h x (inr at) = all_so ys (second (p y) _ h) x at

    pub all_from : (xs : List X) → ((x : X) → In xs x → p x ≡ true) → list_all p xs ≡ true
    all_from [] all = refl
    all_from (y ∷ ys) all = both (all y (inl refl)) (all_from ys (λ x at. all x (inr at)))

    pub none_so : (xs : List X) → list_any p xs ≡ false → (x : X) → In xs x → p x ≡ false
    none_so [] h x at = absurd at
    none_so (y ∷ ys) h x (inl e) = ap p (sym e) ∙ neither_first (p y) _ h
    none_so (y ∷ ys) h x (inr at) = none_so ys (neither_second (p y) _ h) x at

    pub none_from : (xs : List X) → ((x : X) → In xs x → p x ≡ false) → list_any p xs ≡ false
    none_from [] none = refl
    none_from (y ∷ ys) none = neither (none y (inl refl)) (none_from ys (λ x at. none x (inr at)))

    pub any_so : (xs : List X) → list_any p xs ≡ true → (x : X) × (In xs x) × (p x ≡ true)
    any_so [] h = absurd (true_false h refl)
    any_so (y ∷ ys) h = by_test (p y) (λ t. (y, inl refl, t)) (λ f. let w = any_so ys (ap (λ b. b || list_any p ys) (sym f) ∙ h) in (w.0, inr w.1, w.2))

    pub any_from : (xs : List X) (x : X) → In xs x → p x ≡ true → list_any p xs ≡ true
    any_from xs x at h = by_test (list_any p xs) (λ t. t) (λ f. absurd (true_false h (none_so xs f x at)))

    pub in-filter : (xs : List X) (x : X) → In xs x → p x ≡ true → In (filter p xs) x
    in-filter [] x at h = absurd at
    in-filter (y ∷ ys) x (inl e) h = elim (p y) as (λ b. p y ≡ b → In (cond b (y ∷ filter p ys) (filter p ys)) x) [ true ↦ λ t. inl e | false ↦ λ f. absurd (true_false h (ap p (sym e) ∙ f)) ] refl
    in-filter (y ∷ ys) x (inr at) h = let later = in-filter ys x at h in elim (p y) as (λ b. In (cond b (y ∷ filter p ys) (filter p ys)) x) [ true ↦ inr later | false ↦ later ]

    pub filter_so : (xs : List X) (x : X) → In (filter p xs) x → (In xs x) × (p x ≡ true)
    filter_so [] x at = absurd at
    filter_so (y ∷ ys) x at = by_head (filter_so ys x) at
      where
        later : (In ys x) × (p x ≡ true) → (In (y ∷ ys) x) × (p x ≡ true)
        later w = (inr w.0, w.1)

        here : (In (filter p ys) x → (In ys x) × (p x ≡ true)) → p y ≡ true → In (y ∷ filter p ys) x → (In (y ∷ ys) x) × (p x ≡ true)
        here rest t (inl e) = (inl e, ap p (sym e) ∙ t)
        here rest t (inr at) = later (rest at)

        by_head : (In (filter p ys) x → (In ys x) × (p x ≡ true)) → In (cond (p y) (y ∷ filter p ys) (filter p ys)) x → (In (y ∷ ys) x) × (p x ≡ true)
        by_head rest = (elim (p y) as (λ b. p y ≡ b → In (cond b (y ∷ filter p ys) (filter p ys)) x → (In (y ∷ ys) x) × (p x ≡ true)) [ true ↦ λ t at. here rest t at | false ↦ λ f at. later (rest at) ]) refl

module _ {X Y : Type 0} where
  pub in-map : (f : X → Y) (xs : List X) (x : X) → In xs x → In (map f xs) (f x)
  in-map f [] x at = absurd at
  in-map f (y ∷ ys) x (inl e) = inl (ap f e)
  in-map f (y ∷ ys) x (inr at) = inr (in-map f ys x at)

  pub map_so : (f : X → Y) (xs : List X) (y : Y) → In (map f xs) y → (x : X) × (In xs x) × (f x ≡ y)
  map_so f [] y at = absurd at
  map_so f (x ∷ xs) y (inl e) = (x, inl refl, e)
  map_so f (x ∷ xs) y (inr at) = let w = map_so f xs y at in (w.0, inr w.1, w.2)

  pub in-flat_map : (f : X → List Y) (xs : List X) (x : X) (y : Y) → In xs x → In (f x) y → In (flat_map f xs) y
  in-flat_map f [] x y at h = absurd at
  in-flat_map f (z ∷ zs) x y (inl e) h = in-left (f z) (flat_map f zs) y (subst (λ w. In (f w) y) (sym e) h)
  in-flat_map f (z ∷ zs) x y (inr at) h = in-right (f z) (flat_map f zs) y (in-flat_map f zs x y at h)

  pub flat_map_so : (f : X → List Y) (xs : List X) (y : Y) → In (flat_map f xs) y → (x : X) × (In xs x) × (In (f x) y)
  flat_map_so f [] y at = absurd at
  flat_map_so f (z ∷ zs) y at = by_append (f z) (flat_map f zs) y at (λ here. (z, inl refl, here)) (λ there. let w = flat_map_so f zs y there in (w.0, inr w.1, w.2))

  pub in-filter_map : (f : X → Option Y) (xs : List X) (x : X) (y : Y) → In xs x → f x ≡ Some y → In (filter_map f xs) y
  in-filter_map f [] x y at h = absurd at
  in-filter_map f (z ∷ zs) x y (inl e) h = subst (λ o. In (cons_option o (filter_map f zs)) y) (sym (ap f e ∙ h)) (inl refl)
  in-filter_map f (z ∷ zs) x y (inr at) h = let later = in-filter_map f zs x y at h in elim (f z) as (λ o. In (cons_option o (filter_map f zs)) y) [ None ↦ later | Some w ↦ inr later ]

  pub filter_map_so : (f : X → Option Y) (xs : List X) (y : Y) → In (filter_map f xs) y → (x : X) × (In xs x) × (f x ≡ Some y)
  filter_map_so f [] y at = absurd at
  filter_map_so f (z ∷ zs) y at = by_head (filter_map_so f zs y) at
    where
      later : (x : X) × (In zs x) × (f x ≡ Some y) → (x : X) × (In (z ∷ zs) x) × (f x ≡ Some y)
      later w = (w.0, inr w.1, w.2)

      here : (In (filter_map f zs) y → (x : X) × (In zs x) × (f x ≡ Some y)) → (w : Y) → f z ≡ Some w → In (w ∷ filter_map f zs) y → (x : X) × (In (z ∷ zs) x) × (f x ≡ Some y)
      here rest w e (inl same) = (z, inl refl, e ∙ ap (λ v. Some v) same)
      here rest w e (inr at) = later (rest at)

      by_head : (In (filter_map f zs) y → (x : X) × (In zs x) × (f x ≡ Some y)) → In (cons_option (f z) (filter_map f zs)) y → (x : X) × (In (z ∷ zs) x) × (f x ≡ Some y)
      by_head rest = (elim (f z) as (λ o. f z ≡ o → In (cons_option o (filter_map f zs)) y → (x : X) × (In (z ∷ zs) x) × (f x ≡ Some y)) [ None ↦ λ e at. later (rest at) | Some w ↦ λ e at. here rest w e at ]) refl

-- ---- numbers that differ

module _ {X : Type 0} (f : X → ℕ) where
  pub differ-filter : (p : X → Bool) (xs : List X) → all_differ (map f xs) ≡ true → all_differ (map f (filter p xs)) ≡ true
  differ-filter p [] h = refl
  differ-filter p (x ∷ xs) h =
      let rest : all_differ (map f (filter p xs)) ≡ true = differ-filter p xs (second (not (list_any (λ other. f x == other) (map f xs))) _ h) in
      let fresh : list_any (λ other. f x == other) (map f xs) ≡ false = not_so _ (first (not (list_any (λ other. f x == other) (map f xs))) _ h) in
      elim (p x) as (λ b. all_differ (map f (cond b (x ∷ filter p xs) (filter p xs))) ≡ true) [
        | true ↦ both
            (ap not (none_from (λ other. f x == other) (map f (filter p xs)) (λ n at.
            let w = map_so f (filter p xs) n at in none_so (λ other. f x == other) (map f xs) fresh n (subst (In (map f xs)) w.2 (in-map f xs w.0 (filter_so p xs w.0 w.1).0)))))
            rest
        | false ↦ rest
      ]

  pub differ-push : (xs : List X) (y : X) → all_differ (map f xs) ≡ true → ((x : X) → In xs x → (f x == f y) ≡ false) → all_differ (map f (xs ++ y ∷ [])) ≡ true
  differ-push [] y h apart = refl
  differ-push (x ∷ xs) y h apart =
      let fresh : list_any (λ other. f x == other) (map f xs) ≡ false = not_so _ (first (not (list_any (λ other. f x == other) (map f xs))) _ h) in
      both
      (ap not (none_from (λ other. f x == other) (map f (xs ++ y ∷ [])) (λ n at.
      let w = map_so f (xs ++ y ∷ []) n at in
      by_push xs y w.0 w.1
      (λ old. none_so (λ other. f x == other) (map f xs) fresh n (subst (In (map f xs)) w.2 (in-map f xs w.0 old)))
      (λ new. ap (λ other. f x == other) (sym w.2 ∙ ap f (sym new)) ∙ apart x (inl refl)))))
      (differ-push xs y (second (not (list_any (λ other. f x == other) (map f xs))) _ h) (λ z at. apart z (inr at)))
