-- What a test finds in a list, and what an edit at the one place where it passes does.
use Rattle.std.proofs.Common.{◌≡◌, ℕ, zero, suc, ◌<◌, Bool, true, false, not, ◌⊎◌, inl, inr, if◌then◌else◌, List, [], ◌∷◌, ◌++◌, length, map, filter, get_or, set, None, Some, is_some, slice_get, refl, sym, ap, subst, ◌∙◌, arith, true≢false}
use Rattle.std.specs.List.{find, list_any, remove, AllByRecursion, IsDistinct}
use Rattle.std.specs.Cmp.{IsEquivalence}
use Rattle.std.proofs.lemmas.Bool.{cases_Bool}
use Rattle.std.proofs.lemmas.Map.Keys.{IsDistinct-head, IsDistinct-tail}
use Rattle.snapshot_manager.specs.Places.{NonePasses, PassesOnlyAt}

-- two tests that imply each other are one
pub same_bool : (a b : Bool) → (a ≡ true → b ≡ true) → (b ≡ true → a ≡ true) → a ≡ b
same_bool true b there back = sym (there refl)
same_bool false true there back = back refl
same_bool false false there back = refl

-- a list has an element at each place below its length
pub slice_get_in : {X : Type 0} (xs : List X) (i : ℕ) (d : X) → i < length xs → slice_get xs i ≡ Some (get_or xs i d)
slice_get_in [] i d lt = absurd (omega arith)
slice_get_in (x ∷ xs) zero d lt = refl
slice_get_in (x ∷ xs) (suc i) d lt = slice_get_in xs i d (omega arith)

pub all_at : {X : Type 0} (P : X → Type 0) (xs : List X) (i : ℕ) (x : X) → AllByRecursion P xs → slice_get xs i ≡ Some x → P x
all_at P [] i x all at = absurd (cc)
all_at P (y ∷ ys) zero x all at = let same : y ≡ x = cc in subst P same all.0
all_at P (y ∷ ys) (suc i) x all at = all_at P ys i x all.1 at

pub all_push : {X : Type 0} (P : X → Type 0) (xs : List X) (x : X) → AllByRecursion P xs → P x → AllByRecursion P (xs ++ x ∷ [])
all_push P [] x all here = (here, tt)
all_push P (y ∷ ys) x all here = (all.0, all_push P ys x all.1 here)

pub all_set : {X : Type 0} (P : X → Type 0) (xs : List X) (i : ℕ) (x : X) → AllByRecursion P xs → P x → AllByRecursion P (set xs i x)
all_set P [] i x all here = tt
all_set P (y ∷ ys) zero x all here = (here, all.1)
all_set P (y ∷ ys) (suc i) x all here = (all.0, all_set P ys i x all.1 here)

pub all_weaker : {X : Type 0} (P Q : X → Type 0) → ((x : X) → P x → Q x) → (xs : List X) → AllByRecursion P xs → AllByRecursion Q xs
all_weaker P Q weaker [] all = tt
all_weaker P Q weaker (x ∷ xs) all = (weaker x all.0, all_weaker P Q weaker xs all.1)

pub all_filter : {X : Type 0} (P : X → Type 0) (keeps : X → Bool) (xs : List X) → AllByRecursion P xs → AllByRecursion P (filter keeps xs)
all_filter P keeps [] all = tt
all_filter P keeps (x ∷ xs) all = elim (cases_Bool (keeps x)) [
  | inl passes ↦ rw passes (all.0, all_filter P keeps xs all.1)
  | inr fails ↦ rw fails (all_filter P keeps xs all.1)
]

module _ {X : Type 0} (test : X → Bool) where
  pub find_nowhere : (xs : List X) → NonePasses test xs → find test xs ≡ None
  find_nowhere [] none = refl
  find_nowhere (x ∷ xs) none = rw none.0 (find_nowhere xs none.1)

  pub nowhere_from_find : (xs : List X) → find test xs ≡ None → NonePasses test xs
  nowhere_from_find [] none = tt
  nowhere_from_find (x ∷ xs) none = elim (cases_Bool (test x)) [
    | inl passes ↦ let found : Some x ≡ None = rw passes at none in absurd (cc)
    | inr fails ↦ (fails, nowhere_from_find xs (rw fails at none))
  ]

  pub any_nowhere : (xs : List X) → NonePasses test xs → list_any test xs ≡ false
  any_nowhere [] none = refl
  any_nowhere (x ∷ xs) none = rw none.0 (any_nowhere xs none.1)

  pub nowhere_from_any : (xs : List X) → list_any test xs ≡ false → NonePasses test xs
  nowhere_from_any [] none = tt
  nowhere_from_any (x ∷ xs) none = elim (cases_Bool (test x)) [
    | inl passes ↦ let found : true ≡ false = rw passes at none in absurd (cc)
    | inr fails ↦ (fails, nowhere_from_any xs (rw fails at none))
  ]

  -- a test finds something exactly where it passes somewhere
  pub some_find : (xs : List X) → is_some (find test xs) ≡ list_any test xs
  some_find [] = refl
  some_find (x ∷ xs) = elim (cases_Bool (test x)) [
    | inl passes ↦ rw passes refl
    | inr fails ↦ rw fails (some_find xs)
  ]

  pub filter_nowhere : (xs : List X) → NonePasses test xs → filter (λ x. not (test x)) xs ≡ xs
  filter_nowhere [] none = refl
  filter_nowhere (x ∷ xs) none = rw none.0 (ap (λ l. x ∷ l) (filter_nowhere xs none.1))

  pub map_nowhere : (f : X → X) (xs : List X) → NonePasses test xs → map (λ x. if test x then f x else x) xs ≡ xs
  map_nowhere f [] none = refl
  map_nowhere f (x ∷ xs) none = rw none.0 (ap (λ l. x ∷ l) (map_nowhere f xs none.1))

  pub find_there : (xs : List X) (i : ℕ) → PassesOnlyAt test xs i → find test xs ≡ slice_get xs i
  find_there [] i there = absurd there
  find_there (x ∷ xs) zero there = rw there.0 refl
  find_there (x ∷ xs) (suc i) there = rw there.0 (find_there xs i there.1)

  pub any_there : (xs : List X) (i : ℕ) → PassesOnlyAt test xs i → list_any test xs ≡ true
  any_there [] i there = absurd there
  any_there (x ∷ xs) zero there = rw there.0 refl
  any_there (x ∷ xs) (suc i) there = rw there.0 (any_there xs i there.1)

  pub filter_there : (xs : List X) (i : ℕ) → PassesOnlyAt test xs i → filter (λ x. not (test x)) xs ≡ remove xs i
  filter_there [] i there = absurd there
  filter_there (x ∷ xs) zero there = rw there.0 (filter_nowhere xs there.1)
  filter_there (x ∷ xs) (suc i) there = rw there.0 (ap (λ l. x ∷ l) (filter_there xs i there.1))

  pub map_there : (f : X → X) (xs : List X) (i : ℕ) (d : X) → PassesOnlyAt test xs i → map (λ x. if test x then f x else x) xs ≡ set xs i (f (get_or xs i d))
  map_there f [] i d there = absurd there
  map_there f (x ∷ xs) zero d there = rw there.0 (ap (λ l. f x ∷ l) (map_nowhere f xs there.1))
  map_there f (x ∷ xs) (suc i) d there = rw there.0 (ap (λ l. x ∷ l) (map_there f xs i d there.1))

  pub there_in_range : (xs : List X) (i : ℕ) → PassesOnlyAt test xs i → i < length xs
  there_in_range [] i there = absurd there
  there_in_range (x ∷ xs) zero there = omega arith
  there_in_range (x ∷ xs) (suc i) there = omega (arith, there_in_range xs i there.1)

module _ {X K : Type 0} (key : X → K) (eq : K → K → Bool) (laws : IsEquivalence eq) where
  -- keys that differ from one that a query finds aren't found
  pub none_like : (q k : K) → eq q k ≡ true → (xs : List X) → AllByRecursion (λ y. eq k y ≡ false) (map key xs) → NonePasses (λ x. eq q (key x)) xs
  none_like q k same [] apart = tt
  none_like q k same (x ∷ xs) apart = (laws.congr q k (key x) same ∙ apart.0, none_like q k same xs apart.1)

  all_keys_at : (P : K → Type 0) (xs : List X) (i : ℕ) (x : X) → AllByRecursion P (map key xs) → slice_get xs i ≡ Some x → P (key x)
  all_keys_at P [] i x all at = absurd (cc)
  all_keys_at P (y ∷ ys) zero x all at = let same : y ≡ x = cc in subst (λ z. P (key z)) same all.0
  all_keys_at P (y ∷ ys) (suc i) x all at = all_keys_at P ys i x all.1 at

  -- where no two keys are equal, a query that one passes passes only there
  pub passes_only_at : (q : K) (xs : List X) (i : ℕ) (x : X) → IsDistinct eq (map key xs) → slice_get xs i ≡ Some x → eq q (key x) ≡ true → PassesOnlyAt (λ y. eq q (key y)) xs i
  passes_only_at q [] i x apart at pass = absurd (cc)
  passes_only_at q (y ∷ ys) zero x apart at pass =
      let same : y ≡ x = cc in
      let here : eq q (key y) ≡ true = rw same pass in
      (here, none_like q (key y) here ys (IsDistinct-head eq (key y) (map key ys) apart))
  passes_only_at q (y ∷ ys) (suc i) x apart at pass = (other (cases_Bool (eq q (key y))), passes_only_at q ys i x (IsDistinct-tail eq (key y) (map key ys) apart) at pass)
    where
      differ : eq (key y) (key x) ≡ false
      differ = all_keys_at (λ k. eq (key y) k ≡ false) ys i x (IsDistinct-head eq (key y) (map key ys) apart) at

      other : (eq q (key y) ≡ true) ⊎ (eq q (key y) ≡ false) → eq q (key y) ≡ false
      other (inl passes) = let clash : true ≡ false = sym pass ∙ laws.congr q (key y) (key x) passes ∙ differ in absurd (cc)
      other (inr fails) = fails

-- a test of what a function gives
pub none_map : {X Y : Type 0} (f : X → Y) (test : Y → Bool) (xs : List X) → NonePasses (λ x. test (f x)) xs → NonePasses test (map f xs)
none_map f test [] none = tt
none_map f test (x ∷ xs) none = (none.0, none_map f test xs none.1)

pub passes_map : {X Y : Type 0} (f : X → Y) (test : Y → Bool) (xs : List X) (i : ℕ) → PassesOnlyAt (λ x. test (f x)) xs i → PassesOnlyAt test (map f xs) i
passes_map f test [] i there = there
passes_map f test (x ∷ xs) zero there = (there.0, none_map f test xs there.1)
passes_map f test (x ∷ xs) (suc i) there = (there.0, passes_map f test xs i there.1)

pub map_map : {X Y Z : Type 0} (f : X → Y) (g : Y → Z) (xs : List X) → map g (map f xs) ≡ map (λ x. g (f x)) xs
map_map f g [] = refl
map_map f g (x ∷ xs) = ap (λ l. g (f x) ∷ l) (map_map f g xs)

-- a test that passes at one place finds something and nothing else
pub there_not_nowhere : {X : Type 0} (test : X → Bool) (xs : List X) (i : ℕ) → PassesOnlyAt test xs i → list_any test xs ≡ false → ⊥
there_not_nowhere test xs i there none = true≢false (sym (any_there test xs i there) ∙ none)

-- what a test finds stands somewhere
pub place_from_find : {X : Type 0} (test : X → Bool) (xs : List X) (x : X) → find test xs ≡ Some x → (i : ℕ) × (slice_get xs i ≡ Some x) × (test x ≡ true)
place_from_find test [] x found = absurd (cc)
place_from_find test (y ∷ ys) x found = by (place_from_find test ys x) (cases_Bool (test y))
  where
    by : (find test ys ≡ Some x → (i : ℕ) × (slice_get ys i ≡ Some x) × (test x ≡ true)) → (test y ≡ true) ⊎ (test y ≡ false) → (i : ℕ) × (slice_get (y ∷ ys) i ≡ Some x) × (test x ≡ true)
    by rest (inl here) = let is : Some y ≡ Some x = rw here at found in let same : y ≡ x = cc in (zero, is, subst (λ z. test z ≡ true) same here)
    by rest (inr there) = let p = rest (rw there at found) in (suc p.0, p.1, p.2)

-- what a test finds passes it
pub found_passes : {X : Type 0} (test : X → Bool) (xs : List X) (x : X) → find test xs ≡ Some x → test x ≡ true
found_passes test xs x found = (place_from_find test xs x found).2
