use Rattle.std.proofs.Common.{◌≡◌, ◌<◌, true, arith}
use Rattle.std.specs.Str.Parse.{digits_value}
use Rattle.script_text.specs.Numbers.{is_numeral}
use Rattle.script_text.proofs.Digits.{numeral_fits}
use Rattle.script_text.proofs.numbers.number_of.Goals as goal

pub digits_value-requires-clause-fits : goal.digits_value-requires-clause-fits
digits_value-requires-clause-fits c =
    let is : is_numeral c.args.radix c.args.least c.args.most c.args.word.now ≡ true = cc in
    let fits : digits_value c.args.radix c.args.word.now < 1099511627776 = numeral_fits c.args.radix c.args.least c.args.most c.args.word.now c.requires.high c.requires.short is in
    omega arith
