use Rattle.std.proofs.Common.{arith, ◌++◌, ◌∙◌, ap, string_bytes}
use Rattle.run_output.proofs.TextModes.{padded-octal}
use Rattle.run_output.proofs.text.write_mode.Goals as goal

pub returns : goal.returns
returns c =
    let written = rw (c.laid_out.ensures, c.in_radix.ensures, c.bits.ensures.value) at c.in_ok-write.ensures.bytes in
    written ∙ ap (λ text. string_bytes c.args.out.now ++ text) (padded-octal c.args.mode (omega (arith, c.bits.ensures.in_range)))
