-- What a source gives and a sink takes. `None` stands for an end that doesn't tell its bytes.
use Rattle.std.specs.Prelude.{◌≡◌, ◌≤◌, ◌+◌, ℕ, List, [], length, take, Option, None, Some, ⊤}
use Rattle.std.specs.Io.KnownBytes.{prepend_known, append_known}

-- the rest began with these bytes, and is now what followed them; whether it is told stays
abbrev pub Gives : Option (List ℕ) → Option (List ℕ) → List ℕ → Type 0
Gives before now bytes = before ≡ prepend_known bytes now

-- what is written has grown by these bytes; whether it is told stays
abbrev pub Takes : Option (List ℕ) → Option (List ℕ) → List ℕ → Type 0
Takes before now bytes = now ≡ append_known before bytes

-- nothing is left, where the rest is told
abbrev pub IsEnded : Option (List ℕ) → Type 0
IsEnded None = ⊤
IsEnded (Some rest) = rest ≡ []

-- no byte past the limit was given
pub record GivesWithin (limit : ℕ) (before now : Option (List ℕ)) : Type 0 where
  pub bytes : List ℕ
  pub given : Gives before now bytes
  pub within : length bytes ≤ limit

-- one byte past the limit was given, and no further one
pub record GivesPast (limit : ℕ) (before now : Option (List ℕ)) : Type 0 where
  pub bytes : List ℕ
  pub given : Gives before now bytes
  pub past : length bytes ≡ limit + 1

-- some bytes from the front were taken
pub record TakesSome (before now : Option (List ℕ)) (bytes : List ℕ) : Type 0 where
  pub count : ℕ
  pub within : count ≤ length bytes
  pub taken : Takes before now (take count bytes)
