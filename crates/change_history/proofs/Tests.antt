-- Tests of numbers, and what hangs on how one comes out.
use Rattle.std.proofs.Common.{◌≡◌, ℕ, zero, suc, ◌<◌, ◌≤◌, Bool, true, false, cond, refl, sym, ap, ◌∙◌, arith}
use Rattle.std.specs.Prelude.{◌&&◌, IsTrue, nat_lt, nat_le, nat_eq, if◌then◌else◌}
use Rattle.std.proofs.lemmas.Bool.Decides.{nat_tests}

pub both : (a b : Bool) → IsTrue a → IsTrue b → IsTrue (a && b)
both true b p q = q
both false b p q = p

pub first : (a b : Bool) → IsTrue (a && b) → IsTrue a
first true b p = refl
first false b p = p

pub second : (a b : Bool) → IsTrue (a && b) → IsTrue b
second true b p = p
second false b p = cc

pub less : (a b : ℕ) → IsTrue (nat_lt a b) → a < b
less a b h = grind (arith, nat_tests)

pub is_less : (a b : ℕ) → a < b → IsTrue (nat_lt a b)
is_less a b h = grind (arith, nat_tests)

-- how a test of `≤` comes out
pub le_cases : {X : Type 0} (P : X → Type 0) (s n : ℕ) (x y : X) → (s ≤ n → P x) → (n < s → P y) → P (cond (nat_le s n) x y)
le_cases P s n x y within beyond = elim (nat_le s n) as (λ b. nat_le s n ≡ b → P (cond b x y)) [
  | true ↦ λ e. within (grind (arith, nat_tests))
  | false ↦ λ e. beyond (grind (arith, nat_tests))
] refl

pub le_yes : {X : Type 0} (s n : ℕ) (x y : X) → s ≤ n → cond (nat_le s n) x y ≡ x
le_yes s n x y h = ap (λ b. cond b x y) (let e : nat_le s n ≡ true = grind (arith, nat_tests) in e)

pub le_no : {X : Type 0} (s n : ℕ) (x y : X) → n < s → cond (nat_le s n) x y ≡ y
le_no s n x y h = ap (λ b. cond b x y) (let e : nat_le s n ≡ false = grind (arith, nat_tests) in e)

pub cond_same : {X : Type 0} (b : Bool) (x : X) → cond b x x ≡ x
cond_same true x = refl
cond_same false x = refl

-- the reading at 0 is that of what is current, and any other goes by the records
pub zero_or_above : {X : Type 0} (s : ℕ) (x z y w : X) → (s ≡ 0 → x ≡ z) → (0 < s → y ≡ w) → (if nat_eq s 0 then x else y) ≡ (if nat_eq s 0 then z else w)
zero_or_above zero x z y w here above = here refl
zero_or_above (suc s) x z y w here above = past (suc s) x y (omega arith) ∙ above (omega arith) ∙ sym (past (suc s) z w (omega arith))
  where
    past : {X : Type 0} (s : ℕ) (x y : X) → 0 < s → (if nat_eq s 0 then x else y) ≡ y
    past s x y h = ap (λ b. cond b x y) (let e : nat_eq s 0 ≡ false = grind (arith, nat_tests) in e)
