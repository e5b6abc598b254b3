use Rattle.std.proofs.Common.{◌≡◌, take}
use Rattle.std.specs.Str.Parse.{digits_value}
use Rattle.script_text.proofs.numbers.digits_value.Given as goal

-- the digits so far
abbrev pub invariant-loop-digit : goal.invariant-loop-digit
invariant-loop-digit l = l.value ≡ digits_value l.radix (take l.digit-index l.word)
