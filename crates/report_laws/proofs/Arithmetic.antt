-- The arithmetic of a report's rows.
use Rattle.std.proofs.Common.{◌≡◌, ℕ, ◌+◌, ◌*◌, ◌-◌, ◌≤◌, subst, arith}

scaled : (a b k : ℕ) → a ≤ b → a * k ≤ b * k
scaled a b k le = let e : a + (b - a) ≡ b = omega arith in subst (λ (x : ℕ). a * k ≤ x * k) e (more a (b - a) k)
  where
    more : (a d k : ℕ) → a * k ≤ (a + d) * k
    more a d k = grind arith

pub cost : (entries longest walks rows : ℕ) → 1 ≤ longest → walks ≤ 12 * entries + 8 → rows ≤ 8 * entries + 16 → walks * (1 + longest) + rows ≤ 16 * (1 + entries) * (1 + longest)
cost entries longest walks rows one few_walks few_rows =
    let all : walks * (1 + longest) ≤ (12 * entries + 8) * (1 + longest) = scaled walks (12 * entries + 8) (1 + longest) few_walks in
    let each : 1 * entries ≤ longest * entries = scaled 1 longest entries one in
    grind (arith, all, each)
