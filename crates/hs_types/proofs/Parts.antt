-- Tests over the parts of a text, which are references, and over what they point to.
use Rattle.std.proofs.Common.{◌≡◌, ℕ, suc, ◌+◌, ◌-◌, ◌≤◌, nat_lt, Bool, true, false, cond, not, ◌||◌, List, [], ◌∷◌, map, length, refl, ap, sym, ◌∙◌, take, drop, sum_by, Some, None, unwrap_or, arith}
use Rattle.std.proofs.lemmas.Bool.Decides.{nat_tests}
use Rattle.std.proofs.lemmas.List.{take_all, drop-map, drop-drop, length-drop}
use Rattle.std.proofs.lemmas.List.Sums.{sum_by-cons}
use Rattle.hs_types.specs.Paths.{text_length}
use Rattle.std.specs.List.{list_any, position_or_len, position}

pub list_any-map : {A B : Type 0} (p : B → Bool) (f : A → B) (xs : List A) → list_any (λ x. p (f x)) xs ≡ list_any p (map f xs)
list_any-map p f [] = refl
list_any-map p f (x ∷ xs) = ap (λ b. p (f x) || b) (list_any-map p f xs)

pub position_or_len-map : {A B : Type 0} (p : B → Bool) (f : A → B) (xs : List A) → position_or_len (λ x. p (f x)) xs ≡ position_or_len p (map f xs)
position_or_len-map p f [] = refl
position_or_len-map p f (x ∷ xs) = ap (λ n. cond (not (p (f x))) (1 + n) 0) (position_or_len-map p f xs)

pub text_length-map : {A : Type 0} (f : A → List ℕ) (xs : List A) → sum_by (λ x. length (f x) + 1) xs ≡ text_length (map f xs)
text_length-map f [] = refl
text_length-map f (x ∷ xs) =
    sum_by-cons (λ x. length (f x) + 1) x xs ∙ ap (λ n. (length (f x) + 1) + n) (text_length-map f xs) ∙ sym (sum_by-cons (λ part. length part + 1) (f x) (map f xs))

pub position_or_len-le : {A : Type 0} (p : A → Bool) (xs : List A) → position_or_len p xs ≤ length xs
position_or_len-le p [] = omega arith
position_or_len-le p (x ∷ xs) =
    let rest = position_or_len-le p xs in
    elim (p x) as (λ b. cond (not b) (1 + position_or_len p xs) 0 ≤ suc (length xs)) [ true ↦ omega arith | false ↦ omega arith ]

-- `position` with the length in the place of `None`
pub unwrap_or-position : {A : Type 0} (p : A → Bool) (xs : List A) → unwrap_or (position p xs) (length xs) ≡ position_or_len p xs
unwrap_or-position p xs = go (position_or_len p xs) (length xs) (position_or_len-le p xs)
  where
    go : (i n : ℕ) → i ≤ n → unwrap_or (cond (nat_lt i n) (Some i) None) n ≡ i
    go i n h = grind (arith, nat_tests)

-- what stands from a place on, read through f
pub map-drop_at : {A B : Type 0} (f : A → B) (xs : List A) (at : ℕ) → map f (take (length xs - at) (drop at xs)) ≡ drop at (map f xs)
map-drop_at f xs at =
    ap (map f) (take_all (length xs - at) (drop at xs) (omega (arith, length-drop at xs)))
    ∙ sym (drop-map f at xs)

-- one more place
pub drop_next : {B : Type 0} (at : ℕ) (ys : List B) → drop 1 (drop at ys) ≡ drop (at + 1) ys
drop_next at ys = drop-drop 1 at ys

-- what stands behind two places, read through f
pub map-drop_two : {A B : Type 0} (f : A → B) (xs : List A) (at : ℕ) → map f (take (length xs - (at + 2)) (drop (at + 2) xs)) ≡ drop 1 (drop (at + 1) (map f xs))
map-drop_two f xs at =
    map-drop_at f xs (at + 2) ∙ sym (drop_next (at + 1) (map f xs) ∙ ap (λ n. drop n (map f xs)) {y = at + 2} (omega arith))
