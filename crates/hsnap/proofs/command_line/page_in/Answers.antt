use Rattle.std.proofs.Common.{◌∙◌, ℕ, Option, refl, subst, arith}
use Rattle.std.specs.Str.Parse.{ParsesUnsigned, ExplainsUnsignedError, HasUnsignedDigitsIfOk}
use Rattle.clap.specs.Words.{found_of}
use Rattle.hsnap.specs.CommandLine.{page, text_of}
use Rattle.hsnap.proofs.ClapValues.{IsRead, number-read, page-none, page-or}
use Rattle.hsnap.proofs.command_line.page_in.Goals as goal

pub returns-in-Some : goal.returns-in-Some
returns-in-Some c = λ given right is.
    let read = number-read (λ bs r. ParsesUnsigned 16 10 bs r × ExplainsUnsignedError 10 bs r × HasUnsignedDigitsIfOk bs r) 16 1 1000 (found_of c.args.matches.now) page given c.get_one.result
    (λ text. refl, refl) right is c.get_one.ensures.none c.get_one.ensures.value (λ u x g. g.0) (omega arith) in
    c.unwrap_or.ensures ∙ page-or (text_of page given) c.in-Some.entries c.greatest.result c.new.result
    (subst (λ (r : Option ℕ). IsRead (text_of page given) 1 1000 r) c.in-Some.is read) c.new.ensures.in_range c.new.ensures.out_of_range

pub returns-in-None : goal.returns-in-None
returns-in-None c = λ given right is.
    let read = number-read (λ bs r. ParsesUnsigned 16 10 bs r × ExplainsUnsignedError 10 bs r × HasUnsignedDigitsIfOk bs r) 16 1 1000 (found_of c.args.matches.now) page given c.get_one.result
    (λ text. refl, refl) right is c.get_one.ensures.none c.get_one.ensures.value (λ u x g. g.0) (omega arith) in
    c.greatest-in-None.ensures ∙ page-none (text_of page given) (subst (λ (r : Option ℕ). IsRead (text_of page given) 1 1000 r) c.in-None.is read)
