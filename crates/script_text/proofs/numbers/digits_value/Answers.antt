use Rattle.std.proofs.Common.{◌≡◌, ◌+◌, ◌*◌, ◌≤◌, get_or, take, subst, sym, arith}
use Rattle.std.specs.Char.{digit_value}
use Rattle.std.specs.Str.Parse.{digits_value}
use Rattle.script_text.proofs.Digits.{next_digit}
use Rattle.script_text.proofs.numbers.digits_value.Goals as goal

pub overflow_mul-value : goal.overflow_mul-value
overflow_mul-value c =
    let next = next_digit c.args.radix c.args.word.now c.loop-digit.digit-index c.loop-digit.value c.requires.low (omega arith) c.loop-digit.invariant in
    let within : c.loop-digit.value * c.args.radix + digit_value (get_or c.args.word.now c.loop-digit.digit-index 0) ≤ digits_value c.args.radix c.args.word.now = next.1 in
    omega arith

pub overflow_add-value : goal.overflow_add-value
overflow_add-value c =
    let next = next_digit c.args.radix c.args.word.now c.loop-digit.digit-index c.loop-digit.value c.requires.low (omega arith) c.loop-digit.invariant in
    let within : c.loop-digit.value * c.args.radix + digit_value (get_or c.args.word.now c.loop-digit.digit-index 0) ≤ digits_value c.args.radix c.args.word.now = next.1 in
    let digit : c.digit_value.result ≡ digit_value (get_or c.args.word.now c.loop-digit.digit-index 0) = c.digit_value.ensures in
    omega arith

pub loop-digit-preserved : goal.loop-digit-preserved
loop-digit-preserved c =
    let next = next_digit c.args.radix c.args.word.now c.loop-digit.digit-index c.loop-digit.value c.requires.low (omega arith) c.loop-digit.invariant in
    let more : digits_value c.args.radix (take (c.loop-digit.digit-index + 1) c.args.word.now) ≡ c.loop-digit.value * c.args.radix + digit_value (get_or c.args.word.now c.loop-digit.digit-index 0) = next.0 in
    let digit : c.digit_value.result ≡ digit_value (get_or c.args.word.now c.loop-digit.digit-index 0) = c.digit_value.ensures in
    subst (λ d. c.loop-digit.value * c.args.radix + d ≡ digits_value c.args.radix (take (c.loop-digit.digit-index + 1) c.args.word.now)) (sym digit) (sym more)
