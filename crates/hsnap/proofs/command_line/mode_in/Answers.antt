use Rattle.std.proofs.Common.{◌∙◌, ap, sym}
use Rattle.std.specs.Option.{option_and_then, option_map}
use Rattle.clap.specs.Words.{found_of}
use Rattle.hsnap.specs.CommandLine.{mode, mode_of}
use Rattle.hsnap.proofs.ClapValues.{first-text}
use Rattle.hsnap.proofs.command_line.mode_in.Goals as goal

pub returns-in-Some : goal.returns-in-Some
returns-in-Some c = λ given is. c.mode_named.ensures
    ∙ ap (λ o. option_and_then mode_of o) (sym (ap (λ o. option_map (λ s. s.now) o) c.in-Some.is) ∙ (c.get_str.ensures ∙ first-text (found_of c.args.matches.now) mode given is))

pub returns-in-None : goal.returns-in-None
returns-in-None c = λ given is.
    ap (λ o. option_and_then mode_of o) (sym (ap (λ o. option_map (λ s. s.now) o) c.in-None.is) ∙ (c.get_str.ensures ∙ first-text (found_of c.args.matches.now) mode given is))
