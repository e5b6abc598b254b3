-- What `clap` is told of the command line, and what it keeps of the parts that words give.
use Rattle.std.specs.Prelude.{Bool, true, pos, List, [], ◌∷◌, map, Some, None, codes}
use Rattle.std.specs.List.{list_all}
use Rattle.clap.specs.Words.{App, Row, Rule, new_app, new_rule, with_rule}
use Rattle.clap.specs.Simple.{on_top}
use Rattle.clap.specs.Values.{reading_of}
use Rattle.clap.specs.declared.builder.value_parser.ValueParser.{ValueParser}
use Rattle.clap.specs.declared.builder.value_parser.ValueParser.TheVariants as parsers
use Rattle.clap.specs.declared.parser.matches.ValueSource.TheVariants as sources
use Rattle.hsnap.specs.CommandLine.{Part, mode, page, workers, seed, name_of, Given, is_right}

-- what a text of this part has to be
abbrev pub parser_of : Part → ValueParser
parser_of mode = parsers.String
parser_of page = parsers.Signed (pos 1) (pos 1000)
parser_of workers = parsers.Signed (pos 1) (pos 8)
parser_of seed = parsers.Signed (pos 0) (pos 4294967295)

-- the argument of the mode
abbrev pub mode_rule : Rule
mode_rule = record (new_rule (codes "mode")) { required = true }

-- an argument of an option
abbrev pub option_rule : Part → Rule
option_rule part = record (new_rule (name_of part)) { long = Some (name_of part); parser = Some (parser_of part) }

-- the command before it has arguments
abbrev pub plain_app : App
plain_app = on_top (λ s. record s { no_binary_name = true; disable_help_flag = true; disable_version_flag = true }) (new_app (codes "hsnap"))

-- the command that `clap` reads the words by
abbrev pub command_app : App
command_app = with_rule (with_rule (with_rule (with_rule plain_app mode_rule) (option_rule page)) (option_rule workers)) (option_rule seed)

-- what `clap` keeps of a part that the words gave
abbrev pub row : Given → Row
row given = record { id = name_of given.0; values = given.1 ∷ []; count = None; source = Some sources.CommandLine; reading = reading_of (parser_of given.0) }

-- and of all parts
abbrev pub rows : List Given → List Row
rows = map row

-- each text may be given for its part
abbrev pub are_right : List Given → Bool
are_right given = list_all (λ one. is_right one.0 one.1) given
