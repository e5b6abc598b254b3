-- What was read of an input that wasn't read whole.
use Rattle.std.specs.Prelude.{ℕ, List, Option}
use Rattle.hs_io.specs.declared.input.InputErr.{InputErr}
use Rattle.hs_io.specs.declared.input.InputErr.TheVariants.{TooLarge, Failed, NoMemory}
use Rattle.hs_io.specs.Bytes.{GivesWithin, GivesPast}

-- one byte past the limit where that is the fault, and else no more than the limit
abbrev pub IsLost : ℕ → Option (List ℕ) → Option (List ℕ) → InputErr → Type 0
IsLost limit before now TooLarge = GivesPast limit before now
IsLost limit before now Failed = GivesWithin limit before now
IsLost limit before now NoMemory = GivesWithin limit before now
