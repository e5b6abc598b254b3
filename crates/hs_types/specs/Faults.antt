-- Counts that stand still at the last number of a u64.
use Rattle.std.specs.Prelude.{ℕ, Bool, ◌+◌, ◌-◌, ◌^◌, ◌≤◌, ◌==◌, min, List}
use Rattle.std.specs.List.{list_any}

-- one more, or the last number of a u64
abbrev pub one_more : ℕ → ℕ
one_more count = min (count + 1) (2 ^ 64 - 1)

-- the count rose, or stands at its last number
abbrev pub Rose : ℕ → ℕ → Type 0
Rose before now = one_more before ≤ now

-- the next call after that many is one of those that fail
abbrev pub fails_next : List ℕ → ℕ → Bool
fails_next fails calls = list_any (λ number. number == one_more calls) fails
