-- What only proofs use: names for the outs that differ for all numbers, which are decimal as long as a `u64` counts them.
use Rattle.std.specs.Prelude.{ℕ, ◌+◌, ◌^◌, nat_lt, if◌then◌else◌, List, replicate}
use Rattle.std.specs.Fmt.{decimal}

abbrev pub number_below : ℕ → ℕ → List ℕ
number_below bound n = if nat_lt n bound then decimal n else replicate (n + 1) 65

abbrev pub number : ℕ → List ℕ
number n = number_below (2 ^ 64) n
