use Rattle.std.proofs.Common.{◌<◌, sym, ◌∙◌, arith}
use Rattle.script_text.proofs.Digits.{byte_fits}
use Rattle.script_text.proofs.numbers.byte_of.Goals as goal

pub overflow_cast-result : goal.overflow_cast-result
overflow_cast-result c =
    let small : c.in-Some.byte < 256 = byte_fits c.args.word.now c.in-Some.byte (sym c.number_of.ensures ∙ c.in-Some.is) in
    omega arith
