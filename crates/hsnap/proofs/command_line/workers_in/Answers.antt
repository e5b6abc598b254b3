use Rattle.std.proofs.Common.{◌∙◌, refl, arith}
use Rattle.std.specs.Str.Parse.{ParsesUnsigned, ExplainsUnsignedError, HasUnsignedDigitsIfOk}
use Rattle.clap.specs.Words.{found_of}
use Rattle.hsnap.specs.CommandLine.{workers, text_of}
use Rattle.hsnap.proofs.ClapValues.{number-or, number-read}
use Rattle.hsnap.proofs.command_line.workers_in.Goals as goal

pub returns : goal.returns
returns c = λ given right is.
    let read = number-read (λ bs r. ParsesUnsigned 32 10 bs r × ExplainsUnsignedError 10 bs r × HasUnsignedDigitsIfOk bs r) 32 1 8 (found_of c.args.matches.now) workers given c.get_one.result
    (λ text. refl, refl) right is c.get_one.ensures.none c.get_one.ensures.value (λ u x g. g.0) (omega arith) in
    c.unwrap_or.ensures ∙ number-or (text_of workers given) 1 8 4 c.get_one.result read
