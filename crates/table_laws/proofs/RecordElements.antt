-- Elements of lists.
use Rattle.std.proofs.Common.{◌≡◌, ℕ, zero, suc, ◌<◌, Bool, true, false, cond, List, [], ◌∷◌, map, filter, length, get_or, refl, subst, ap, ◌∙◌, arith}
use Rattle.std.specs.List.{Contains}
use Rattle.hs_plain.proofs.ValidShapes.{true_false}

pub at_head : {X : Type 0} (x : X) (xs : List X) → Contains (x ∷ xs) x
at_head x xs = (0, omega arith, refl)

pub at_later : {X : Type 0} (y : X) (xs : List X) (x : X) → Contains xs x → Contains (y ∷ xs) x
at_later y xs x c = (suc c.0, (let lt = c.1 in omega arith), c.2)

pub by_first : {X P : Type 0} (y : X) (xs : List X) (x : X) → Contains (y ∷ xs) x → (y ≡ x → P) → (Contains xs x → P) → P
by_first {X} {P} y xs x c = at c.0 c.1 c.2
  where
    at : (k : ℕ) → k < length (y ∷ xs) → get_or (y ∷ xs) k x ≡ x → (y ≡ x → P) → (Contains xs x → P) → P
    at zero lt e here there = here e
    at (suc k) lt e here there = there (k, omega arith, e)

pub not_empty : {X P : Type 0} (x : X) → Contains [] x → P
not_empty x c = absurd (let lt = c.1 in omega arith)

pub in_map : {X Y : Type 0} (f : X → Y) (xs : List X) (x : X) → Contains xs x → Contains (map f xs) (f x)
in_map f [] x c = not_empty x c
in_map f (y ∷ ys) x c = by_first y ys x c (λ e. subst (λ z. Contains (f y ∷ map f ys) (f z)) e (at_head (f y) (map f ys))) (λ k. at_later (f y) (map f ys) (f x) (in_map f ys x k))

pub from_map : {X Y : Type 0} (f : X → Y) (xs : List X) (y : Y) → Contains (map f xs) y → (x : X) × Contains xs x × (f x ≡ y)
from_map f [] y c = not_empty y c
from_map f (x ∷ xs) y c = by_first (f x) (map f xs) y c (λ e. (x, at_head x xs, e)) (λ k. let r = from_map f xs y k in (r.0, at_later x xs r.0 r.1, r.2))

pub in_filter : {X : Type 0} (test : X → Bool) (xs : List X) (x : X) → Contains xs x → test x ≡ true → Contains (filter test xs) x
in_filter test [] x c passes = c
in_filter test (y ∷ ys) x c passes = elim (test y) as (λ b. test y ≡ b → Contains (cond b (y ∷ filter test ys) (filter test ys)) x) [
  | true ↦ λ _. by_first y ys x c (λ e. subst (λ z. Contains (y ∷ filter test ys) z) e (at_head y (filter test ys))) (λ k. at_later y (filter test ys) x (in_filter test ys x k passes))
  | false ↦ λ fails. by_first y ys x c (λ e. absurd (true_false (ap test e ∙ passes) fails)) (λ k. in_filter test ys x k passes)
] refl

pub from_filter : {X : Type 0} (test : X → Bool) (xs : List X) (x : X) → Contains (filter test xs) x → Contains xs x
from_filter test [] x c = c
from_filter test (y ∷ ys) x c = elim (test y) as (λ b. Contains (cond b (y ∷ filter test ys) (filter test ys)) x → Contains (y ∷ ys) x) [
  | true ↦ λ k. by_first y (filter test ys) x k (λ e. subst (λ z. Contains (y ∷ ys) z) e (at_head y ys)) (λ l. at_later y ys x (from_filter test ys x l))
  | false ↦ λ k. at_later y ys x (from_filter test ys x k)
] c
