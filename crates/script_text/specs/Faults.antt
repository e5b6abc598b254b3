-- What only private contracts speak of: why a line isn't read.
use Rattle.std.specs.Prelude.{◌≡◌, Bool, false, Result, Ok, Err}
use Rattle.script_text.specs.declared.fault.FaultKind.{FaultKind}
use Rattle.script_text.specs.declared.fault.LineFault.{LineFault}
use Rattle.script_text.specs.declared.fault.LineFault.TheVariants.{Bad, NoMemory}

-- it is of this kind and the test fails, or memory ran out
abbrev pub IsLineFault : FaultKind → Bool → LineFault → Type 0
IsLineFault kind test (Bad found) = (found ≡ kind) × (test ≡ false)
IsLineFault kind test NoMemory = Unit {0}

-- what was read is the meaning, or memory ran out
abbrev pub Gives : {A : Type 0} → Result A FaultKind → Result A LineFault → Type 0
Gives meaning (Ok read) = meaning ≡ Ok read
Gives meaning (Err (Bad kind)) = meaning ≡ Err kind
Gives meaning (Err NoMemory) = Unit {0}
