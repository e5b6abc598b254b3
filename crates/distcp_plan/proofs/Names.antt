-- Names of the temporary directory.
use Rattle.std.proofs.Common.{◌≡◌, ℕ, suc, cond, ◌+◌, ◌-◌, ◌<◌, ◌≤◌, ◌^◌, ◌%◌, Bool, true, false, ◌||◌, bytes_eq, List, [], ◌∷◌, ◌++◌, length, refl, ap, sym, ◌∙◌, arith}
use Rattle.std.specs.Prelude.{nat_le, nat_eq, zero, ◌==◌}
use Rattle.std.specs.Ordering.{nat_cmp, is_eq, eq_by_cmp}
use Rattle.std.specs.declared.cmp.Ordering.{Ordering}
use Rattle.std.specs.declared.cmp.Ordering.TheVariants.{Less, Equal, Greater}
use Rattle.std.specs.Cmp.{tied_itself}
use Rattle.std.specs.Cmp.Lexicographic.{slice_cmp, nat_list_cmp_total}
use Rattle.std.proofs.lemmas.Map.Lookups.{exact_bytes}
use Rattle.std.proofs.lemmas.Slice.Eq.{bytes_eq-Decides}
use Rattle.std.specs.List.{list_any, starts_with}
use Rattle.std.specs.Fmt.{decimal}
use Rattle.std.proofs.lemmas.Fmt.{decimal_by_steps, length-decimal-le}
use Rattle.std.proofs.lemmas.Bool.Decides.{Decides-eqb, nat_tests}
use Rattle.std.proofs.lemmas.List.Folds.{list_any-append}
use Rattle.hs_types.specs.Names.{is_slash, is_nul, is_name}
use Rattle.hs_types.specs.Names.{Names}
use Rattle.hs_plain.specs.Plan.{has_name, tmp_word, tmp_name, first_free}
use Rattle.hs_plain.proofs.ValidShapes.{true_false}
use Rattle.distcp_plan.proofs.Lead.{by}

assoc : (a b c : Bool) → ((a || b) || c) ≡ (a || (b || c))
assoc true b c = refl
assoc false b c = refl

pub in-either : (xs ys : Names) (name : List ℕ) → has_name (xs ++ ys) name ≡ (has_name xs name || has_name ys name)
in-either [] ys name = refl
in-either (x ∷ xs) ys name = ap (λ b. bytes_eq x name || b) (in-either xs ys name) ∙ sym (assoc (bytes_eq x name) (has_name xs name) (has_name ys name))

-- ---- digits are neither slashes nor zero bytes

abbrev Plain : List ℕ → Type 0
Plain bytes = (list_any is_slash bytes ≡ false) × (list_any is_nul bytes ≡ false)

other : (byte digit : ℕ) → byte < 48 → (48 + digit == byte) ≡ false
other byte digit low = by (48 + digit == byte) (λ t. let e : 48 + digit ≡ byte = (Decides-eqb (48 + digit) byte).0 t in absurd (omega arith)) (λ f. f)

one-digit : (digit : ℕ) → Plain ((48 + digit) ∷ [])
one-digit digit = (ap (λ b. b || false) (other 47 digit (omega arith)), ap (λ b. b || false) (other 0 digit (omega arith)))

digits-plain : (n : ℕ) → n < 2 ^ 64 → Plain (decimal n)
digits-plain = decimal_by_steps (λ n ds. Plain ds) (λ n low. one-digit n)
    (λ n ds big rest. (
      list_any-append is_slash ds ((48 + n % 10) ∷ []) ∙ ap (λ b. b || list_any is_slash ((48 + n % 10) ∷ [])) rest.0 ∙ (one-digit (n % 10)).0,
      list_any-append is_nul ds ((48 + n % 10) ∷ []) ∙ ap (λ b. b || list_any is_nul ((48 + n % 10) ∷ [])) rest.1 ∙ (one-digit (n % 10)).1,
    ))

named : (digits : List ℕ) → nat_le (length (tmp_word ++ digits)) 255 ≡ true → Plain digits → is_name (tmp_word ++ digits) ≡ true
named digits few plain = rw (few, plain.0, plain.1) refl

within : (k : ℕ) → k ≤ 255 → nat_le k 255 ≡ true
within k h = grind (arith, nat_tests)

pub tmp-is_name : (n : ℕ) → n < 2 ^ 64 → is_name (tmp_word ++ decimal n) ≡ true
tmp-is_name n small = let short : length (decimal n) ≤ 20 = length-decimal-le 20 n (omega arith) (omega arith) small in named (decimal n) (within (length (tmp_word ++ decimal n)) (omega arith)) (digits-plain n small)

-- ---- the search goes on behind a name that is taken

pub free-next : (taken : Names) (most k : ℕ) → k < most → has_name taken (tmp_name k) ≡ true → first_free taken (most - (k + 1)) (k + 1) ≡ first_free taken (most - k) k
free-next taken most k low is_taken =
    let e : most - k ≡ suc (most - (k + 1)) = omega arith in
    sym (ap (λ (more : ℕ). first_free taken more k) e ∙ ap (λ b. cond b (first_free taken (most - (k + 1)) (k + 1)) (tmp_name k)) is_taken)

-- and ends at one that is free
pub free-here : (taken : Names) (most k : ℕ) → k < most → has_name taken (tmp_name k) ≡ false → tmp_name k ≡ first_free taken (most - k) k
free-here taken most k low is_free =
    let e : most - k ≡ suc (most - (k + 1)) = omega arith in
    sym (ap (λ (more : ℕ). first_free taken more k) e ∙ ap (λ b. cond b (first_free taken (most - (k + 1)) (k + 1)) (tmp_name k)) is_free)

-- ---- a set that has the names that begin with the word

pub ties : (a b : List ℕ) → eq_by_cmp (slice_cmp nat_cmp) a b ≡ bytes_eq a b
ties a b = by (bytes_eq a b)
    (λ t. ap (λ (x : List ℕ). eq_by_cmp (slice_cmp nat_cmp) a x) (sym ((bytes_eq-Decides a b).0 t)) ∙ ap is_eq (tied_itself nat_list_cmp_total a) ∙ sym t)
    (λ f. by (eq_by_cmp (slice_cmp nat_cmp) a b)
    (λ t. absurd (true_false ((bytes_eq-Decides a b).1 (exact_bytes a b (equal-so (slice_cmp nat_cmp a b) t))) f))
    (λ g. g ∙ sym f))
  where
    equal-so : (o : Ordering) → is_eq o ≡ true → o ≡ Equal
    equal-so Less h = absurd (true_false h refl)
    equal-so Equal h = refl
    equal-so Greater h = absurd (true_false h refl)

or-turned : (a b : Bool) → cond b true a ≡ (a || b)
or-turned true true = refl
or-turned true false = refl
or-turned false true = refl
or-turned false false = refl

pub or-none : (a b : Bool) → b ≡ false → a ≡ (a || b)
or-none true b h = refl
or-none false b h = sym h

pub with-one : (had : Bool) (key name q : List ℕ) → key ≡ name → cond (eq_by_cmp (slice_cmp nat_cmp) key q) true had ≡ (had || bytes_eq name q)
with-one had key name q e = ap (λ (k : List ℕ). cond (eq_by_cmp (slice_cmp nat_cmp) k q) true had) e ∙ ap (λ b. cond b true had) (ties name q) ∙ or-turned had (bytes_eq name q)

begins : (number : ℕ) → starts_with nat_eq (tmp_name number) tmp_word ≡ true
begins zero = refl
begins (suc n) = refl

-- a name that begins otherwise is none of those to choose from
pub no-choice : (name : List ℕ) (number : ℕ) → starts_with nat_eq name tmp_word ≡ false → bytes_eq name (tmp_name number) ≡ false
no-choice name number other = by (bytes_eq name (tmp_name number))
    (λ t. absurd (true_false (ap (λ (x : List ℕ). starts_with nat_eq x tmp_word) ((bytes_eq-Decides name (tmp_name number)).0 t) ∙ begins number) other))
    (λ f. f)
