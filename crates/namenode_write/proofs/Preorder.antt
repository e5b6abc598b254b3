-- A tree in order is its root, and then what stands at and below each child in turn.
use Rattle.std.proofs.Common.{◌≡◌, ◌⊎◌, inl, inr, ℕ, zero, suc, ◌≤◌, Bool, true, false, cond, not, List, [], ◌∷◌, ◌++◌, map, length, drop, Option, Some, None, refl, sym, ap, subst, ◌∙◌, append_assoc, append-nil, arith}
use Rattle.std.specs.Prelude.{bytes_eq}
use Rattle.std.specs.List.{filter, filter_map, flat_map, cons_option, starts_with}
use Rattle.std.specs.Ordering.{nat_cmp, is_lt, ordering_then, ordering_reverse}
use Rattle.std.specs.declared.cmp.Ordering.{Ordering}
use Rattle.std.specs.declared.cmp.Ordering.TheVariants.{Less, Equal, Greater}
use Rattle.std.specs.Cmp.Lexicographic.{slice_cmp, nat_list_cmp_total}
use Rattle.std.specs.FinMap.{nat_cmp-IsAntisymmetric, slice_cmp-IsAntisymmetric}
use Rattle.std.specs.FinMap.Entries.{is_sorted, below_all}
use Rattle.std.proofs.lemmas.Cmp.{tied_itself}
use Rattle.std.proofs.lemmas.List.{append_cancel_left}
use Rattle.std.proofs.lemmas.List.Elements.{filter-append, filter_map-append}
use Rattle.std.proofs.Math.Seq.{drop-append_seam}
use Rattle.hs_types.specs.Names.{Names}
use Rattle.hs_types.specs.declared.reply.Item.{Item}
use Rattle.hs_plain.specs.declared.state.Node.{Node}
use Rattle.hs_plain.specs.Tree.{Tree, path_cmp, node_at, parent_of, is_under, name_below, only_name, named_item, listing}
use Rattle.hs_plain.proofs.LineOrder.{path_itself}
use Rattle.hs_plain.proofs.ValidHeld.{in-tree, found_place}
use Rattle.hs_plain.proofs.ValidLists.{In, by_test, false_by, not_so, in-filter, filter_so, filter_map_so}
use Rattle.hs_plain.proofs.ValidShapes.{by_last, parent_of-last, none_some, same_some, true_false, under_so, under_test}
use Rattle.hs_plain.proofs.ValidTrees.{both, first, second, paths_total}

-- ---- paths

less : (o : Ordering) → is_lt o ≡ true → o ≡ Less
less Less h = refl
less Equal h = cc
less Greater h = cc

names_exact : (a b : List ℕ) → slice_cmp nat_cmp a b ≡ Equal → a ≡ b
names_exact = slice_cmp-IsAntisymmetric nat_cmp-IsAntisymmetric

-- what stands between a path and one below it is below it too
between : (k x rest : Names) → path_cmp k x ≡ Less → path_cmp x (k ++ rest) ≡ Less → (r : Names) × (x ≡ k ++ r)
between [] x rest h g = (x, refl)
between (a ∷ k) [] rest h g = absurd (cc)
between (a ∷ k) (b ∷ x) rest h g = by (slice_cmp nat_cmp a b) refl (between k x rest) h g
  where
    back : (o : Ordering) → slice_cmp nat_cmp a b ≡ o → slice_cmp nat_cmp b a ≡ ordering_reverse o
    back o e = nat_list_cmp_total.antisymm b a ∙ ap ordering_reverse e

    by : (o : Ordering) → slice_cmp nat_cmp a b ≡ o → (path_cmp k x ≡ Less → path_cmp x (k ++ rest) ≡ Less → (r : Names) × (x ≡ k ++ r))
        → ordering_then (slice_cmp nat_cmp a b) (path_cmp k x) ≡ Less → ordering_then (slice_cmp nat_cmp b a) (path_cmp x (k ++ rest)) ≡ Less → (r : Names) × (b ∷ x ≡ a ∷ (k ++ r))
    by Less e more h g = let no : Greater ≡ Less = sym (ap (λ o. ordering_then o (path_cmp x (k ++ rest))) (back Less e)) ∙ g in absurd (cc)
    by Equal e more h g =
        let r = more (sym (ap (λ o. ordering_then o (path_cmp k x)) e) ∙ h) (sym (ap (λ o. ordering_then o (path_cmp x (k ++ rest))) (back Equal e)) ∙ g) in
        (r.0, (λ i. sym (names_exact a b e) i ∷ r.1 i))
    by Greater e more h g = let no : Greater ≡ Less = sym (ap (λ o. ordering_then o (path_cmp k x)) e) ∙ h in absurd (cc)

prefix-less : (k : Names) (name : List ℕ) (rest : Names) → path_cmp k (k ++ name ∷ rest) ≡ Less
prefix-less [] name rest = refl
prefix-less (a ∷ k) name rest = ap (λ o. ordering_then o (path_cmp k (k ++ name ∷ rest))) (tied_itself nat_list_cmp_total a) ∙ prefix-less k name rest

not-less : (p q : Names) → path_cmp p q ≡ Less → path_cmp q p ≡ Less → ⊥
not-less p q h g = let no : Greater ≡ Less = sym (paths_total.antisymm q p ∙ ap ordering_reverse h) ∙ g in cc

not-itself : (p q : Names) → path_cmp p q ≡ Less → q ≡ p → ⊥
not-itself p q h e = let no : Equal ≡ Less = sym (path_itself p) ∙ ap (path_cmp p) (sym e) ∙ h in cc

-- paths that go on by different names
heads : (p : Names) (a b : List ℕ) (r s : Names) → p ++ a ∷ r ≡ p ++ b ∷ s → a ≡ b
heads p a b r s e = same (append_cancel_left p (a ∷ r) (b ∷ s) e)
  where
    same : a ∷ r ≡ b ∷ s → a ≡ b
    same h = cc

no-rest : (p : Names) (a b : List ℕ) (r : Names) → p ++ a ∷ r ≡ p ++ b ∷ [] → r ≡ []
no-rest p a b r e = same (append_cancel_left p (a ∷ r) (b ∷ []) e)
  where
    same : a ∷ r ≡ b ∷ [] → r ≡ []
    same h = cc

not-below : (p : Names) (name : List ℕ) (rest : Names) → p ≡ p ++ name ∷ rest → ⊥
not-below p name rest e = nothing (append_cancel_left p [] (name ∷ rest) (append-nil p ∙ e))
  where
    nothing : [] ≡ name ∷ rest → ⊥
    nothing h = cc

-- a name leads to a path exactly where the path is the child's
pub below_is : (p q : Names) (name : List ℕ) → name_below p q ≡ Some name → q ≡ p ++ name ∷ []
below_is p q name h = elim (starts_with bytes_eq q p) as (λ b. starts_with bytes_eq q p ≡ b → cond b (only_name (drop (length p) q)) None ≡ Some name → q ≡ p ++ name ∷ []) [
  | true ↦ λ t g. under_so q p t ∙ ap (λ (r : Names). p ++ r) (only (drop (length p) q) g)
  | false ↦ λ t g. absurd (none_some g)
] refl h
  where
    only : (r : Names) → only_name r ≡ Some name → r ≡ name ∷ []
    only [] g = absurd (none_some g)
    only (x ∷ []) g = ap (λ (y : List ℕ). y ∷ []) (same_some g)
    only (x ∷ y ∷ r) g = absurd (none_some g)

below_from : (p : Names) (name : List ℕ) → name_below p (p ++ name ∷ []) ≡ Some name
below_from p name = ap (λ b. cond b (only_name (drop (length p) (p ++ name ∷ []))) None) (under_test (p ++ name ∷ []) p (name ∷ []) refl) ∙ ap only_name (drop-append_seam p (name ∷ []))

not_own : (p : Names) → name_below p p ≡ None
not_own p = by (name_below p p) refl
  where
    by : (o : Option (List ℕ)) → name_below p p ≡ o → name_below p p ≡ None
    by None e = e
    by (Some name) e = absurd (not-below p name [] (below_is p p name e))

-- ---- lists

module _ {X : Type 0} where
  filter-none : (p : X → Bool) (xs : List X) → ((x : X) → In xs x → p x ≡ false) → filter p xs ≡ []
  filter-none p [] none = refl
  filter-none p (x ∷ xs) none = ap (λ b. cond b (x ∷ filter p xs) (filter p xs)) (none x (inl refl)) ∙ filter-none p xs (λ y at. none y (inr at))

  -- a test that asks for another one
  filter-twice : (p q : X → Bool) (xs : List X) → ((x : X) → p x ≡ true → q x ≡ true) → filter p (filter q xs) ≡ filter p xs
  filter-twice p q [] sub = refl
  filter-twice p q (x ∷ xs) sub = by (filter-twice p q xs sub) (p x) refl (q x) refl
    where
      by : filter p (filter q xs) ≡ filter p xs → (b : Bool) → p x ≡ b → (c : Bool) → q x ≡ c → filter p (filter q (x ∷ xs)) ≡ filter p (x ∷ xs)
      by rest true e true f = ap (λ c. filter p (cond c (x ∷ filter q xs) (filter q xs))) f ∙ ap (λ b. cond b (x ∷ filter p (filter q xs)) (filter p (filter q xs))) e ∙ ap (λ (ys : List X). x ∷ ys) rest ∙ sym (ap (λ b. cond b (x ∷ filter p xs) (filter p xs)) e)
      by rest true e false f = absurd (true_false (sub x e) f)
      by rest false e true f = ap (λ c. filter p (cond c (x ∷ filter q xs) (filter q xs))) f ∙ ap (λ b. cond b (x ∷ filter p (filter q xs)) (filter p (filter q xs))) e ∙ rest ∙ sym (ap (λ b. cond b (x ∷ filter p xs) (filter p xs)) e)
      by rest false e false f = ap (λ c. filter p (cond c (x ∷ filter q xs) (filter q xs))) f ∙ rest ∙ sym (ap (λ b. cond b (x ∷ filter p xs) (filter p xs)) e)

  filter-shorter : (p : X → Bool) (xs : List X) → length (filter p xs) ≤ length xs
  filter-shorter p [] = omega arith
  filter-shorter p (x ∷ xs) = let rest = filter-shorter p xs in elim (p x) as (λ b. length (cond b (x ∷ filter p xs) (filter p xs)) ≤ suc (length xs)) [ true ↦ omega (arith, rest) | false ↦ omega (arith, rest) ]

module _ {X Y : Type 0} where
  filter_map-none : (f : X → Option Y) (xs : List X) → ((x : X) → In xs x → f x ≡ None) → filter_map f xs ≡ []
  filter_map-none f [] none = refl
  filter_map-none f (x ∷ xs) none = ap (λ o. cons_option o (filter_map f xs)) (none x (inl refl)) ∙ filter_map-none f xs (λ y at. none y (inr at))

  flat_map-alike : (f g : X → List Y) (xs : List X) → ((x : X) → In xs x → f x ≡ g x) → flat_map f xs ≡ flat_map g xs
  flat_map-alike f g [] same = refl
  flat_map-alike f g (x ∷ xs) same = λ i. same x (inl refl) i ++ flat_map-alike f g xs (λ y at. same y (inr at)) i

module _ {B : Type 0} where
  below-in : (k : Names) (t : Tree B) → below_all path_cmp k t ≡ true → (x : Names × Node B) → In t x → path_cmp k x.0 ≡ Less
  below-in k [] h x at = absurd at
  below-in k (y ∷ t) h x (inl e) = ap (λ (z : Names × Node B). path_cmp k z.0) (sym e) ∙ less (path_cmp k y.0) (first (is_lt (path_cmp k y.0)) _ h)
  below-in k (y ∷ t) h x (inr at) = below-in k t (second (is_lt (path_cmp k y.0)) _ h) x at

  below-kept : (p : Names × Node B → Bool) (k : Names) (t : Tree B) → below_all path_cmp k t ≡ true → below_all path_cmp k (filter p t) ≡ true
  below-kept p k [] h = refl
  below-kept p k (y ∷ t) h = let rest = below-kept p k t (second (is_lt (path_cmp k y.0)) _ h) in elim (p y) as (λ b. below_all path_cmp k (cond b (y ∷ filter p t) (filter p t)) ≡ true) [ true ↦ both (first (is_lt (path_cmp k y.0)) _ h) rest | false ↦ rest ]

  sorted-kept : (p : Names × Node B → Bool) (t : Tree B) → is_sorted path_cmp t ≡ true → is_sorted path_cmp (filter p t) ≡ true
  sorted-kept p [] h = refl
  sorted-kept p (y ∷ t) h = let rest = sorted-kept p t (second (below_all path_cmp y.0 t) _ h) in elim (p y) as (λ b. is_sorted path_cmp (cond b (y ∷ filter p t) (filter p t)) ≡ true) [ true ↦ both (below-kept p y.0 t (first (below_all path_cmp y.0 t) _ h)) rest | false ↦ rest ]

  -- ---- parts of a tree

  -- what stands at a path and below it
  abbrev pub part : Tree B → Names → Tree B
  part tree path = filter (is_under path) tree

  -- the names of the children that a list has right below a path
  abbrev pub names_below : Tree B → Names → List (List ℕ)
  names_below tree path = filter_map (λ place. name_below path place.0) tree

  module _ (k : Names) where
    abbrev outside : Names × Node B → Bool
    outside place = not (is_under k place)

    none-after : (x : Names) → path_cmp k x ≡ Less → starts_with bytes_eq x k ≡ false → (t : Tree B) → below_all path_cmp x t ≡ true → (filter (is_under k) t ≡ []) × (filter outside t ≡ t)
    none-after x h f [] b = (refl, refl)
    none-after x h f (y ∷ t) b =
        let later : path_cmp x y.0 ≡ Less = less (path_cmp x y.0) (first (is_lt (path_cmp x y.0)) _ b) in
        let no : is_under k y ≡ false = false_by _ (λ u. let r = between k x (drop (length k) y.0) h (ap (path_cmp x) (sym (under_so y.0 k u)) ∙ later) in true_false (under_test x k r.0 r.1) f) in
        let rest = none-after x h f t (second (is_lt (path_cmp x y.0)) _ b) in (
          ap (λ c. cond c (y ∷ filter (is_under k) t) (filter (is_under k) t)) no ∙ rest.0,
          ap (λ c. cond (not c) (y ∷ filter outside t) (filter outside t)) no ∙ ap (λ (ys : Tree B). y ∷ ys) rest.1,
        )

    -- behind a path comes first all that stands below it
    split : (t : Tree B) → below_all path_cmp k t ≡ true → is_sorted path_cmp t ≡ true → t ≡ filter (is_under k) t ++ filter outside t
    split [] b s = refl
    split (x ∷ t) b s = by_test (is_under k x)
        (λ u. ap (λ (ys : Tree B). x ∷ ys) (split t (second (is_lt (path_cmp k x.0)) _ b) (second (below_all path_cmp x.0 t) _ s))
        ∙ sym (ap (λ c. cond c (x ∷ filter (is_under k) t) (filter (is_under k) t) ++ cond (not c) (x ∷ filter outside t) (filter outside t)) u))
        (λ f. let n = none-after x.0 (less (path_cmp k x.0) (first (is_lt (path_cmp k x.0)) _ b)) f t (first (below_all path_cmp x.0 t) _ s) in
        sym (ap (λ c. cond c (x ∷ filter (is_under k) t) (filter (is_under k) t) ++ cond (not c) (x ∷ filter outside t) (filter outside t)) f
        ∙ (λ i. n.0 i ++ x ∷ n.1 i)))

  -- places below a path, with all places between
  record IsPart (p : Names) (t : Tree B) : Type 0 where
    sorted : is_sorted path_cmp t ≡ true
    below : (x : Names × Node B) → In t x → (name : List ℕ) × (rest : Names) × (x.0 ≡ p ++ name ∷ rest)
    above : (x : Names × Node B) → In t x → (up : Names) (name : List ℕ) → x.0 ≡ up ++ name ∷ [] → (up ≡ p) ⊎ ((n : Node B) × In t (up, n))

  module _ (p : Names) where
    -- the first of them is a child
    first-child : (e : Names × Node B) (t : Tree B) → IsPart p (e ∷ t) → (a : List ℕ) × (e.0 ≡ p ++ a ∷ [])
    first-child e t is =
        let b = is.below e (inl refl) in
        by_last (λ q. e.0 ≡ p ++ q → (q ≡ [] → ⊥) → (a : List ℕ) × (e.0 ≡ p ++ a ∷ [])) (b.0 ∷ b.1) (λ _ some. absurd (some refl))
        (λ front last h _. up front last (h ∙ sym (append_assoc p front (last ∷ []))) (is.above e (inl refl) (p ++ front) last (h ∙ sym (append_assoc p front (last ∷ [])))))
        b.2 (λ none. absurd (cc))
      where
        up : (front : Names) (last : List ℕ) → e.0 ≡ (p ++ front) ++ last ∷ [] → (p ++ front ≡ p) ⊎ ((n : Node B) × In (e ∷ t) (p ++ front, n)) → (a : List ℕ) × (e.0 ≡ p ++ a ∷ [])
        up front last h (inl same) = (last, h ∙ ap (λ (q : Names). q ++ last ∷ []) same)
        up front last h (inr (n, inl same)) = absurd (not-below (p ++ front) last [] (ap (λ (x : Names × Node B). x.0) (sym same) ∙ h))
        up front last h (inr (n, inr at)) = absurd (not-less (p ++ front) e.0 (ap (path_cmp (p ++ front)) h ∙ prefix-less (p ++ front) last []) (below-in e.0 t (first (below_all path_cmp e.0 t) _ is.sorted) (p ++ front, n) at))

    -- they stand child by child
    group : (n : ℕ) (t : Tree B) → length t ≤ n → IsPart p t → t ≡ flat_map (λ name. part t (p ++ name ∷ [])) (names_below t p)
    group n [] le is = refl
    group zero (e ∷ t) le is = absurd (omega arith)
    group (suc n) (e ∷ t) le is = by (group n) (first-child e t is)
      where
        by : ((s : Tree B) → length s ≤ n → IsPart p s → s ≡ flat_map (λ name. part s (p ++ name ∷ [])) (names_below s p)) → (a : List ℕ) × (e.0 ≡ p ++ a ∷ []) → e ∷ t ≡ flat_map (λ name. part (e ∷ t) (p ++ name ∷ [])) (names_below (e ∷ t) p)
        by more (a, e_is) = whole
          where
            k : Names
            k = p ++ a ∷ []

            us : Tree B
            us = filter (is_under k) t

            vs : Tree B
            vs = filter (outside k) t

            below_k : below_all path_cmp k t ≡ true
            below_k = ap (λ (q : Names). below_all path_cmp q t) (sym e_is) ∙ first (below_all path_cmp e.0 t) _ is.sorted

            halves : t ≡ us ++ vs
            halves = split k t below_k (second (below_all path_cmp e.0 t) _ is.sorted)

            in_u : (x : Names × Node B) → In us x → In t x × ((r : Names) × (x.0 ≡ p ++ a ∷ r))
            in_u x at = let w = filter_so (is_under k) t x at in (w.0, (drop (length k) x.0, under_so x.0 k w.1 ∙ append_assoc p (a ∷ []) (drop (length k) x.0)))

            in_v : (x : Names × Node B) → In vs x → In t x × (is_under k x ≡ false)
            in_v x at = let w = filter_so (outside k) t x at in (w.0, not_so (is_under k x) w.1)

            is_v : IsPart p vs
            is_v = record {
              sorted = sorted-kept (outside k) t (second (below_all path_cmp e.0 t) _ is.sorted);
              below = λ x at. is.below x (inr (in_v x at).0);
              above = λ x at up name h. stays x (in_v x at) up name h (is.above x (inr (in_v x at).0) up name h);
            }
              where
                stays : (x : Names × Node B) → In t x × (is_under k x ≡ false) → (up : Names) (name : List ℕ) → x.0 ≡ up ++ name ∷ [] → (up ≡ p) ⊎ ((n : Node B) × In (e ∷ t) (up, n)) → (up ≡ p) ⊎ ((n : Node B) × In vs (up, n))
                stays x w up name h (inl same) = inl same
                stays x w up name h (inr (n, inl same)) =
                    absurd (true_false (under_test x.0 k (name ∷ []) (h ∙ ap (λ (q : Names). q ++ name ∷ []) (ap (λ (y : Names × Node B). y.0) (sym same) ∙ e_is))) w.1)
                stays x w up name h (inr (n, inr at)) =
                    let no : is_under k (up, n) ≡ false = false_by _ (λ u. true_false (under_test x.0 k (drop (length k) up ++ name ∷ []) (h ∙ ap (λ (q : Names). q ++ name ∷ []) (under_so up k u) ∙ append_assoc k (drop (length k) up) (name ∷ []))) w.1) in
                    inr (n, in-filter (outside k) t (up, n) at (ap not no))

            rest : vs ≡ flat_map (λ name. part vs (p ++ name ∷ [])) (names_below vs p)
            rest = let short = filter-shorter (outside k) t in more vs (omega (arith, short, le)) is_v

            -- none of the first part is a child
            no_name : (x : Names × Node B) → In us x → name_below p x.0 ≡ None
            no_name x at = none (name_below p x.0) refl
              where
                none : (o : Option (List ℕ)) → name_below p x.0 ≡ o → name_below p x.0 ≡ None
                none None g = g
                none (Some name) g =
                    let w = in_u x at in
                    let own : w.1.0 ≡ [] = no-rest p a name w.1.0 (sym w.1.1 ∙ below_is p x.0 name g) in
                    absurd (not-itself k x.0 (below-in k t below_k x w.0) (w.1.1 ∙ ap (λ (r : Names). p ++ a ∷ r) own))

            names_are : names_below (e ∷ t) p ≡ a ∷ names_below vs p
            names_are =
                ap (λ o. cons_option o (names_below t p)) (ap (name_below p) e_is ∙ below_from p a)
                ∙ ap (λ (ns : List (List ℕ)). a ∷ ns)
                (ap (λ (ys : Tree B). names_below ys p) halves
                ∙ filter_map-append (λ (place : Names × Node B). name_below p place.0) us vs
                ∙ ap (λ (ns : List (List ℕ)). ns ++ names_below vs p) (filter_map-none (λ (place : Names × Node B). name_below p place.0) us no_name))

            first_part : part (e ∷ t) k ≡ e ∷ us
            first_part = ap (λ b. cond b (e ∷ us) us) (under_test e.0 k [] (e_is ∙ sym (append-nil k)))

            other : (name : List ℕ) → In (names_below vs p) name → name ≡ a → ⊥
            other name at same =
                let w = filter_map_so (λ (place : Names × Node B). name_below p place.0) vs name at in
                true_false (under_test w.0.0 k [] (below_is p w.0.0 name w.2 ∙ ap (λ (x : List ℕ). p ++ x ∷ []) same ∙ sym (append-nil k))) (in_v w.0 w.1).1

            later_part : (name : List ℕ) → In (names_below vs p) name → part (e ∷ t) (p ++ name ∷ []) ≡ part vs (p ++ name ∷ [])
            later_part name at =
                ap (λ b. cond b (e ∷ part t c) (part t c)) (false_by (is_under c e) (λ u. other name at (sym (heads p a name [] (drop (length c) e.0) (sym e_is ∙ under_so e.0 c u ∙ append_assoc p (name ∷ []) (drop (length c) e.0))))))
                ∙ ap (λ (ys : Tree B). part ys c) halves
                ∙ filter-append (is_under c) us vs
                ∙ ap (λ (ys : Tree B). ys ++ part vs c) (filter-none (is_under c) us (λ x in_us. false_by (is_under c x) (λ u.
                let w = in_u x in_us in other name at (sym (heads p a name w.1.0 (drop (length c) x.0) (sym w.1.1 ∙ under_so x.0 c u ∙ append_assoc p (name ∷ []) (drop (length c) x.0)))))))
              where
                c : Names
                c = p ++ name ∷ []

            whole : e ∷ t ≡ flat_map (λ name. part (e ∷ t) (p ++ name ∷ [])) (names_below (e ∷ t) p)
            whole =
                ap (λ (ys : Tree B). e ∷ ys) (halves ∙ ap (λ (ys : Tree B). us ++ ys) (rest ∙ sym (flat_map-alike (λ name. part (e ∷ t) (p ++ name ∷ [])) (λ name. part vs (p ++ name ∷ [])) (names_below vs p) later_part)))
                ∙ sym (ap (flat_map (λ name. part (e ∷ t) (p ++ name ∷ []))) names_are
                ∙ ap (λ (ys : Tree B). ys ++ flat_map (λ name. part (e ∷ t) (p ++ name ∷ [])) (names_below vs p)) first_part)

  -- ---- a whole tree

  names-part : (p : Names) (t : Tree B) → names_below (part t p) p ≡ names_below t p
  names-part p [] = refl
  names-part p (x ∷ t) = by (names-part p t) (starts_with bytes_eq x.0 p) refl
    where
      by : names_below (part t p) p ≡ names_below t p → (b : Bool) → starts_with bytes_eq x.0 p ≡ b → names_below (part (x ∷ t) p) p ≡ names_below (x ∷ t) p
      by rest true u = ap (λ b. names_below (cond b (x ∷ part t p) (part t p)) p) u ∙ ap (cons_option (name_below p x.0)) rest
      by rest false f = ap (λ b. names_below (cond b (x ∷ part t p) (part t p)) p) f ∙ rest ∙ sym (ap (λ b. cons_option (cond b (only_name (drop (length p) x.0)) None) (names_below t p)) f)

  pub names-listed : (p : Names) (t : Tree B) → names_below t p ≡ map (λ item. item.name) (listing t p)
  names-listed p [] = refl
  names-listed p (x ∷ t) = by (names-listed p t) (name_below p x.0)
    where
      by : names_below t p ≡ map (λ (item : Item). item.name) (listing t p) → (o : Option (List ℕ)) → cons_option o (names_below t p) ≡ map (λ (item : Item). item.name) (cons_option (named_item x.1 o) (listing t p))
      by rest None = rest
      by rest (Some name) = ap (λ (ns : List (List ℕ)). name ∷ ns) rest

  module _ (tree : Tree B) (sorted : is_sorted path_cmp tree ≡ true) (closed : (q : Names) (x : Node B) (name : List ℕ) → node_at tree (q ++ name ∷ []) ≡ Some x → (n : Node B) × (node_at tree q ≡ Some n)) where
    pub part-is : (p : Names) (n : Node B) → node_at tree p ≡ Some n → part tree p ≡ (p, n) ∷ flat_map (λ name. part tree (p ++ name ∷ [])) (names_below tree p)
    part-is p n at = by (part tree p) refl
      where
        here : In (part tree p) (p, n)
        here = in-filter (is_under p) tree (p, n) (in-tree tree p n at) (under_test p p [] (sym (append-nil p)))

        by : (s : Tree B) → part tree p ≡ s → part tree p ≡ (p, n) ∷ flat_map (λ name. part tree (p ++ name ∷ [])) (names_below tree p)
        by [] e = absurd (subst (λ (s : Tree B). In s (p, n)) e here)
        by (x ∷ t) e = e ∙ (λ i. top i ∷ below i)
          where
            in-part : (y : Names × Node B) → In (x ∷ t) y → In tree y × ((r : Names) × (y.0 ≡ p ++ r))
            in-part y iny = let w = filter_so (is_under p) tree y (subst (λ (s : Tree B). In s y) (sym e) iny) in (w.0, (drop (length p) y.0, under_so y.0 p w.1))

            sorted_part : is_sorted path_cmp (x ∷ t) ≡ true
            sorted_part = sym (ap (is_sorted path_cmp) e) ∙ sorted-kept (is_under p) tree sorted

            top_by : In (x ∷ t) (p, n) → x ≡ (p, n)
            top_by (inl same) = same
            top_by (inr later) = let w = in-part x (inl refl) in absurd (least w.1.0 w.1.1 (below-in x.0 t (first (below_all path_cmp x.0 t) _ sorted_part) (p, n) later))
              where
                least : (r : Names) → x.0 ≡ p ++ r → path_cmp x.0 p ≡ Less → ⊥
                least [] h lt = not-itself x.0 p lt (sym (h ∙ append-nil p))
                least (name ∷ r) h lt = not-less p x.0 (ap (path_cmp p) h ∙ prefix-less p name r) lt

            top : x ≡ (p, n)
            top = top_by (subst (λ (s : Tree B). In s (p, n)) e here)

            top_path : x.0 ≡ p
            top_path = ap (λ (y : Names × Node B). y.0) top

            is_part : IsPart p t
            is_part = record {
              sorted = second (below_all path_cmp x.0 t) _ sorted_part;
              below = λ y iny. let w = in-part y (inr iny) in more w.1.0 w.1.1 (below-in x.0 t (first (below_all path_cmp x.0 t) _ sorted_part) y iny);
              above = λ y iny up name h. let w = in-part y (inr iny) in
                  let m = closed up y.1 name (ap (node_at tree) (sym h) ∙ found_place tree sorted y w.0) in
                  by_last (λ r. y.0 ≡ p ++ r → (up ≡ p) ⊎ ((k : Node B) × In t (up, k))) w.1.0
                  (λ own. absurd (not-itself x.0 y.0 (below-in x.0 t (first (below_all path_cmp x.0 t) _ sorted_part) y iny) (own ∙ append-nil p ∙ sym top_path)))
                  (λ front last g.
                  let same : up ≡ p ++ front = fronts up (p ++ front) name last (sym h ∙ g ∙ sym (append_assoc p front (last ∷ []))) in
                  placed up m.0 (subst (λ (s : Tree B). In s (up, m.0)) e (in-filter (is_under p) tree (up, m.0) (in-tree tree up m.0 m.1) (under_test up p front same))))
                  w.1.1;
            }
              where
                more : {y : Names} (r : Names) → y ≡ p ++ r → path_cmp x.0 y ≡ Less → (name : List ℕ) × (rest : Names) × (y ≡ p ++ name ∷ rest)
                more {y} [] h lt = absurd (not-itself x.0 y lt (h ∙ append-nil p ∙ sym top_path))
                more (name ∷ rest) h lt = (name, rest, h)

                fronts : (q r : Names) (a b : List ℕ) → q ++ a ∷ [] ≡ r ++ b ∷ [] → q ≡ r
                fronts q r a b h = sym (parent_of-last q a) ∙ ap parent_of h ∙ parent_of-last r b

                placed : (up : Names) (m : Node B) → In (x ∷ t) (up, m) → (up ≡ p) ⊎ ((k : Node B) × In t (up, k))
                placed up m (inl same) = inl (ap (λ (y : Names × Node B). y.0) (sym same) ∙ top_path)
                placed up m (inr later) = inr (m, later)

            names_same : names_below t p ≡ names_below tree p
            names_same = sym (ap (λ o. cons_option o (names_below t p)) (ap (name_below p) top_path ∙ not_own p)) ∙ ap (λ (s : Tree B). names_below s p) (sym e) ∙ names-part p tree

            part_same : (name : List ℕ) → part t (p ++ name ∷ []) ≡ part tree (p ++ name ∷ [])
            part_same name =
                sym (ap (λ b. cond b (x ∷ part t c) (part t c)) (false_by (is_under c x) (λ u. not-below p name (drop (length c) x.0) (sym top_path ∙ under_so x.0 c u ∙ append_assoc p (name ∷ []) (drop (length c) x.0)))))
                ∙ ap (λ (s : Tree B). part s c) (sym e)
                ∙ filter-twice (is_under c) (is_under p) tree (λ y u. under_test y.0 p (name ∷ drop (length c) y.0) (under_so y.0 c u ∙ append_assoc p (name ∷ []) (drop (length c) y.0)))
              where
                c : Names
                c = p ++ name ∷ []

            below : t ≡ flat_map (λ name. part tree (p ++ name ∷ [])) (names_below tree p)
            below = group p (length t) t (omega arith) is_part
                ∙ ap (flat_map (λ name. part t (p ++ name ∷ []))) names_same
                ∙ flat_map-alike (λ name. part t (p ++ name ∷ [])) (λ name. part tree (p ++ name ∷ [])) (names_below tree p) (λ name _. part_same name)
