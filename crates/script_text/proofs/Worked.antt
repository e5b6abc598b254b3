-- Worked examples of the generator, by computation.
use Rattle.std.proofs.Common.{◌≡◌, refl}
use Rattle.std.specs.Fmt.{digits}
use Rattle.std.specs.Str.{is_utf8, chars}
use lib.Utf8.{encode}
use Rattle.percent_encoding.specs.Percent.{percent_decode}
use Rattle.script_text.specs.Generator.{round}
use Rattle.script_text.specs.Worked.{second_round, third_round, SeventhRounds, LeastScript}

second : round 7 20 10 2 ≡ second_round
unfolding digits
second = refl

third : round 7 20 10 3 ≡ third_round
unfolding digits
third = refl

pub seventh_rounds : SeventhRounds
seventh_rounds = record { numbers = refl; second = second; third = third }

pub least_script : LeastScript
unfolding digits is_utf8 chars encode percent_decode
least_script = refl
