-- No two outs have one name.
use Rattle.std.proofs.Common.{◌≡◌, ℕ, ◌+◌, ◌<◌, ◌≤◌, ◌^◌, true, false, cond, length, ap, sym, ◌∙◌, arith}
use Rattle.std.specs.Prelude.{nat_lt, replicate}
use Rattle.std.specs.Fmt.{decimal}
use Rattle.std.proofs.lemmas.Bool.{ltb-true, ltb-false}
use Rattle.std.proofs.lemmas.Fmt.{decimal_injective, length-decimal-le_succ}
use Rattle.std.proofs.lemmas.List.{length-replicate}
use Rattle.plan_laws.specs.inside.Numbers.{number, number_below}
use Rattle.plan_laws.proofs.Paths.{by}

module _ (bound : ℕ) (once : (m n : ℕ) → m < bound → n < bound → decimal m ≡ decimal n → m ≡ n) (short : (n : ℕ) → n < bound → length (decimal n) ≤ n + 1) where
  low : (n : ℕ) → nat_lt n bound ≡ true → number_below bound n ≡ decimal n
  low n t = ap (λ b. cond b (decimal n) (replicate (n + 1) 65)) t

  high : (n : ℕ) → nat_lt n bound ≡ false → number_below bound n ≡ replicate (n + 1) 65
  high n t = ap (λ b. cond b (decimal n) (replicate (n + 1) 65)) t

  clash : (m n : ℕ) → m < bound → bound ≤ n → decimal m ≡ replicate (n + 1) 65 → m ≡ n
  clash m n below above e = let l : length (decimal m) ≡ n + 1 = ap length e ∙ length-replicate (n + 1) 65 in let k : length (decimal m) ≤ m + 1 = short m below in absurd (omega arith)

  equal : (m n : ℕ) → replicate {A = ℕ} (m + 1) 65 ≡ replicate {A = ℕ} (n + 1) 65 → m ≡ n
  equal m n e = let l : m + 1 ≡ n + 1 = sym (length-replicate (m + 1) 65) ∙ ap length e ∙ length-replicate (n + 1) 65 in omega arith

  below-once : (m n : ℕ) → number_below bound m ≡ number_below bound n → m ≡ n
  below-once m n e = by (nat_lt m bound)
      (λ t. by (nat_lt n bound)
      (λ u. once m n (ltb-true m bound t) (ltb-true n bound u) (sym (low m t) ∙ e ∙ low n u))
      (λ u. clash m n (ltb-true m bound t) (ltb-false n bound u) (sym (low m t) ∙ e ∙ high n u)))
      (λ t. by (nat_lt n bound)
      (λ u. sym (clash n m (ltb-true n bound u) (ltb-false m bound t) (sym (low n u) ∙ sym e ∙ high m t)))
      (λ u. equal m n (sym (high m t) ∙ e ∙ high n u)))

pub number-once : (m n : ℕ) → number m ≡ number n → m ≡ n
number-once = below-once (2 ^ 64) decimal_injective length-decimal-le_succ

pub number-low : (n : ℕ) → n < 2 ^ 64 → number n ≡ decimal n
number-low n below = by (nat_lt n (2 ^ 64)) (λ t. ap (λ b. cond b (decimal n) (replicate (n + 1) 65)) t) (λ f. let above : 2 ^ 64 ≤ n = ltb-false n (2 ^ 64) f in absurd (omega arith))
