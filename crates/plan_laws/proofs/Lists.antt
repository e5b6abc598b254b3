-- Paths in the lists of a plan.
use Rattle.std.specs.List.{AllByRecursion}
use Rattle.std.proofs.Common.{◌≡◌, ℕ, ◌+◌, Bool, true, false, ◌||◌, bytes_eq, cond, Option, None, List, [], ◌∷◌, ◌++◌, length, reverse, refl, ap, sym, subst, ◌∙◌, arith}
use Rattle.std.proofs.lemmas.List.{reverse-append}
use Rattle.std.specs.Prelude.{◌&&◌}
use Rattle.std.proofs.lemmas.Cmp.{tied_itself}
use Rattle.std.proofs.lemmas.Slice.Eq.{slice_eq-Decides, bytes_eq-Decides}
use Rattle.std.specs.Ordering.{is_lt, ordering_then, nat_cmp}
use Rattle.std.specs.Cmp.Lexicographic.{slice_cmp, nat_list_cmp_total}
use Rattle.std.specs.declared.cmp.Ordering.TheVariants.{Less, Equal, Greater}
use Rattle.hs_types.specs.Names.{Names}
use Rattle.hs_plain.specs.Tree.{path_cmp, same_path}
use Rattle.hs_plain.proofs.ValidShapes.{none_some, true_false}
use Rattle.hs_plain.specs.Plan.{rest_below, index_of}
use Rattle.plan_laws.specs.Sight.{hits, cuts, is_in, Pairwise}
use Rattle.plan_laws.proofs.Paths.{by, bytes_eq-itself, rest-step, rest-here, differs}
use Rattle.plan_laws.proofs.Cuts.{hits-cuts}

-- ---- each

pub each-append : {A : Type 0} (P : A → Type 0) (xs ys : List A) → AllByRecursion P xs → AllByRecursion P ys → AllByRecursion P (xs ++ ys)
each-append P [] ys h k = k
each-append P (x ∷ xs) ys h k = (h.0, each-append P xs ys h.1 k)

pub each-split : {A : Type 0} (P : A → Type 0) (xs ys : List A) → AllByRecursion P (xs ++ ys) → AllByRecursion P xs × AllByRecursion P ys
each-split P [] ys h = (tt, h)
each-split P (x ∷ xs) ys h = let rest = each-split P xs ys h.1 in ((h.0, rest.0), rest.1)

pub each-reverse : {A : Type 0} (P : A → Type 0) (xs : List A) → AllByRecursion P xs → AllByRecursion P (reverse xs)
each-reverse P [] h = tt
each-reverse P (x ∷ xs) h = subst (AllByRecursion P) (sym (reverse-append (x ∷ []) xs)) (each-append P (reverse xs) (x ∷ []) (each-reverse P xs h.1) (h.0, tt))

pub pairwise-snoc : {A : Type 0} (R : A → A → Type 0) (xs : List A) (x : A) → Pairwise R xs → AllByRecursion (λ y. R y x) xs → Pairwise R (xs ++ x ∷ [])
pairwise-snoc R [] x h k = (tt, tt)
pairwise-snoc R (y ∷ ys) x h k = (each-append (R y) ys (x ∷ []) h.0 (k.0, tt), pairwise-snoc R ys x h.1 k.1)

pub pairwise-reverse : {A : Type 0} (R : A → A → Type 0) (xs : List A) → Pairwise R xs → Pairwise (λ x y. R y x) (reverse xs)
pairwise-reverse R [] h = tt
pairwise-reverse R (x ∷ xs) h = subst (Pairwise (λ x y. R y x)) (sym (reverse-append (x ∷ []) xs)) (pairwise-snoc (λ x y. R y x) (reverse xs) x (pairwise-reverse R xs h.1) (each-reverse (R x) xs h.0))

pub pairwise-before : {A : Type 0} (R : A → A → Type 0) (xs : List A) (x : A) (ys : List A) → Pairwise R (xs ++ x ∷ ys) → AllByRecursion (λ y. R y x) xs
pairwise-before R [] x ys h = tt
pairwise-before R (z ∷ zs) x ys h = (middle (R z) zs x ys h.0, pairwise-before R zs x ys h.1)
  where
    middle : {A : Type 0} (P : A → Type 0) (zs : List A) (x : A) (ys : List A) → AllByRecursion P (zs ++ x ∷ ys) → P x
    middle P [] x ys h = h.0
    middle P (z ∷ zs) x ys h = middle P zs x ys h.1

pub pairwise-after : {A : Type 0} (R : A → A → Type 0) (xs : List A) (x : A) (ys : List A) → Pairwise R (xs ++ x ∷ ys) → AllByRecursion (R x) ys
pairwise-after R [] x ys h = h.0
pairwise-after R (z ∷ zs) x ys h = pairwise-after R zs x ys h.1

-- ---- paths in a list

pub same-so : (a q : Names) → same_path a q ≡ true → q ≡ a
same-so a q h = sym ((slice_eq-Decides bytes_eq-Decides a q (same_path a q) refl).0 h)

pub same-here : (a : Names) → same_path a a ≡ true
same-here a = (slice_eq-Decides bytes_eq-Decides a a (same_path a a) refl).1 refl

-- of a path and one below it only the rest tells
pub same-more : (p r : Names) → same_path p (p ++ r) ≡ same_path [] r
same-more [] r = refl
same-more (n ∷ p) r = ap (λ b. b && same_path p (p ++ r)) (bytes_eq-itself n) ∙ same-more p r

or-assoc : (a b c : Bool) → ((a || b) || c) ≡ (a || (b || c))
or-assoc true b c = refl
or-assoc false b c = refl

pub is_in-append : (xs ys : List Names) (p : Names) → is_in (xs ++ ys) p ≡ (is_in xs p || is_in ys p)
is_in-append [] ys p = refl
is_in-append (x ∷ xs) ys p = ap (λ b. same_path x p || b) (is_in-append xs ys p) ∙ sym (or-assoc (same_path x p) (is_in xs p) (is_in ys p))

or-comm : (a b : Bool) → (a || (b || false)) ≡ (b || a)
or-comm true true = refl
or-comm true false = refl
or-comm false true = refl
or-comm false false = refl

pub is_in-reverse : (xs : List Names) (p : Names) → is_in (reverse xs) p ≡ is_in xs p
is_in-reverse [] p = refl
is_in-reverse (x ∷ xs) p =
    ap (λ ys. is_in ys p) (reverse-append (x ∷ []) xs) ∙ is_in-append (reverse xs) (x ∷ []) p
    ∙ ap (λ b. b || (same_path x p || false)) (is_in-reverse xs p) ∙ or-comm (is_in xs p) (same_path x p)

-- what isn't at or below a path isn't in a list below it
pub none-in : (paths : List Names) (p y : Names) → AllByRecursion (λ path. rest_below p path ≡ None) paths → is_in paths (p ++ y) ≡ false
none-in [] p y none = refl
none-in (a ∷ others) p y none = by (same_path a (p ++ y))
    (λ t. absurd (none_some (sym none.0 ∙ ap (rest_below p) (sym (same-so a (p ++ y) t)) ∙ rest-here p y)))
    (λ f. ap (λ b. b || is_in others (p ++ y)) f ∙ none-in others p y none.1)

cuts-same : (f g : Names → Bool) (r : Names) → ((n : List ℕ) (x : Names) → f (n ∷ x) ≡ g (n ∷ x)) → cuts f r ≡ cuts g r
cuts-same f g [] same = refl
cuts-same f g (n ∷ r) same = ap (λ b. b || cuts (λ x. f (n ∷ x)) r) (same n []) ∙ ap (λ b. g (n ∷ []) || b) (cuts-same (λ x. f (n ∷ x)) (λ x. g (n ∷ x)) r (λ m x. same n (m ∷ x)))

or-right : (a b : Bool) → b ≡ false → (a || b) ≡ a
or-right true b h = refl
or-right false b h = h

-- what some paths take below a path is what all do, where the others are neither at the path nor below it
pub hits-left : (xs : List Names) (p : Names) (ys : List Names) (r : Names) → AllByRecursion (λ x. rest_below x p ≡ None) xs → AllByRecursion (λ y. rest_below p y ≡ None) ys → hits xs (p ++ r) ≡ cuts (λ x. is_in (xs ++ p ∷ ys) (p ++ x)) r
hits-left xs p ys r left right = hits-cuts xs p r left ∙ cuts-same (λ x. is_in xs (p ++ x)) (λ x. is_in (xs ++ p ∷ ys) (p ++ x)) r (λ n x. sym (
    is_in-append xs (p ∷ ys) (p ++ n ∷ x)
    ∙ ap (λ b. is_in xs (p ++ n ∷ x) || (b || is_in ys (p ++ n ∷ x))) (same-more p (n ∷ x))
    ∙ or-right (is_in xs (p ++ n ∷ x)) (is_in ys (p ++ n ∷ x)) (none-in ys p (n ∷ x) right)))

pub hits-right : (xs : List Names) (p : Names) (ys : List Names) (r : Names) → AllByRecursion (λ x. rest_below p x ≡ None) xs → AllByRecursion (λ y. rest_below y p ≡ None) ys → hits ys (p ++ r) ≡ cuts (λ x. is_in (xs ++ p ∷ ys) (p ++ x)) r
hits-right xs p ys r left right = hits-cuts ys p r right ∙ cuts-same (λ x. is_in ys (p ++ x)) (λ x. is_in (xs ++ p ∷ ys) (p ++ x)) r (λ n x. sym (
    is_in-append xs (p ∷ ys) (p ++ n ∷ x)
    ∙ ap (λ b. is_in xs (p ++ n ∷ x) || (b || is_in ys (p ++ n ∷ x))) (same-more p (n ∷ x))
    ∙ ap (λ b. b || is_in ys (p ++ n ∷ x)) (none-in xs p (n ∷ x) left)))

-- ---- places in a list

pub split : (paths : List Names) (p : Names) → is_in paths p ≡ true → (before : List Names) × (after : List Names) × (paths ≡ before ++ p ∷ after) × (index_of paths p ≡ length before)
split [] p h = absurd (true_false h refl)
split (a ∷ others) p h = by (same_path a p)
    (λ t. ([], others, ap (λ (x : Names). x ∷ others) (sym (same-so a p t)), ap (λ b. cond b 0 (index_of others p + 1)) t))
    (λ f. let next : (before : List Names) × (after : List Names) × (others ≡ before ++ p ∷ after) × (index_of others p ≡ length before) = split others p (ap (λ b. b || is_in others p) (sym f) ∙ h) in
    (a ∷ next.0, next.1, ap (λ (x : List Names). a ∷ x) next.2, ap (λ b. cond b 0 (index_of others p + 1)) f ∙ (let e : index_of others p ≡ length next.0 = next.3 in omega arith)))

pub index-once : (paths : List Names) (p q : Names) → is_in paths p ≡ true → is_in paths q ≡ true → index_of paths p ≡ index_of paths q → p ≡ q
index-once [] p q h k e = absurd (true_false h refl)
index-once (a ∷ others) p q h k e = by (same_path a p)
    (λ t. by (same_path a q)
    (λ u. same-so a p t ∙ sym (same-so a q u))
    (λ v. absurd (later (index_of others q) (sym (ap (λ b. cond b 0 (index_of others p + 1)) t) ∙ e ∙ ap (λ b. cond b 0 (index_of others q + 1)) v))))
    (λ f. by (same_path a q)
    (λ u. absurd (later (index_of others p) (sym (ap (λ b. cond b 0 (index_of others q + 1)) u) ∙ sym e ∙ ap (λ b. cond b 0 (index_of others p + 1)) f)))
    (λ v. index-once others p q (ap (λ b. b || is_in others p) (sym f) ∙ h) (ap (λ b. b || is_in others q) (sym v) ∙ k)
    (one-less (index_of others p) (index_of others q) (sym (ap (λ b. cond b 0 (index_of others p + 1)) f) ∙ e ∙ ap (λ b. cond b 0 (index_of others q + 1)) v))))
  where
    later : (n : ℕ) → 0 ≡ n + 1 → ⊥
    later n h = omega arith

    one-less : (n m : ℕ) → n + 1 ≡ m + 1 → n ≡ m
    one-less n m h = omega arith

-- ---- order

-- a path before another isn't at it or below it
pub before-none : (x y : Names) → is_lt (path_cmp x y) ≡ true → rest_below y x ≡ None
before-none [] [] h = absurd (true_false h refl)
before-none (n ∷ x) [] h = absurd (true_false h refl)
before-none [] (m ∷ y) h = refl
before-none (n ∷ x) (m ∷ y) h = rest-step m n y x ∙
    (elim (slice_cmp nat_cmp n m) as (λ o. slice_cmp nat_cmp n m ≡ o → is_lt (ordering_then o (path_cmp x y)) ≡ true → cond (bytes_eq m n) (rest_below y x) None ≡ None) [
      | Less ↦ λ o h. ap (λ b. cond b (rest_below y x) None) (differs m n (λ e. less-equal (sym o ∙ ap (slice_cmp nat_cmp n) e ∙ tied_itself nat_list_cmp_total n)))
      | Equal ↦ λ o h. ap (λ r. cond (bytes_eq m n) r None) (before-none x y h) ∙ both-none (bytes_eq m n)
      | Greater ↦ λ o h. absurd (true_false h refl)
    ]) refl h
  where
    less-equal : Less ≡ Equal → ⊥
    less-equal e = cc

    none : Option Names
    none = None

    both-none : (b : Bool) → cond b none none ≡ none
    both-none true = refl
    both-none false = refl
