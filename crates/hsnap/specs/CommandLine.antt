-- What the words of the command line mean: `MODE [--page N] [--workers N] [--seed N]`, read word by word.
use Rattle.std.specs.Prelude.{◌==◌, ◌&&◌, ◌++◌, ℕ, ℤ, Bool, true, false, not, pos, negsuc, int_le, nat_lt, ◌^◌, if◌then◌else◌}
use Rattle.std.specs.Prelude.{List, [], ◌∷◌, length, find, Option, Some, None, option_map, option_and_then, codes, bytes_eq}
use Rattle.std.specs.List.{list_any, list_all, before_first, after_first}
use Rattle.std.specs.Option.{option_map_or}
use Rattle.std.specs.Char.{digit_value}
use Rattle.std.specs.Str.Parse.{digits_value, signed_digits_value, without_leading_sign}
use Rattle.hsnap.specs.declared.command_line.Mode.{Mode}
use Rattle.hsnap.specs.declared.command_line.Mode.TheVariants as modes
use Rattle.hsnap.specs.declared.command_line.Words.{Words}

-- what a command line may give
pub data Part : Type 0 where
  mode : Part
  page : Part
  workers : Part
  seed : Part

abbrev pub name_of : Part → List ℕ
name_of mode = codes "mode"
name_of page = codes "page"
name_of workers = codes "workers"
name_of seed = codes "seed"

-- a part, and the text that was given for it
abbrev pub Given : Type 0
Given = Part × List ℕ

abbrev pub Parts : Type 0
Parts = List Given

abbrev pub has_name : Part → Given → Bool
has_name part given = bytes_eq (name_of given.0) (name_of part)

abbrev pub is_given : Part → List Given → Bool
is_given part given = list_any (has_name part) given

abbrev pub text_of : Part → List Given → Option (List ℕ)
text_of part given = option_map (λ one. one.1) (find (has_name part) given)

-- ---- numbers

-- one decimal digit or more, and nothing else
abbrev pub is_numeral : List ℕ → Bool
is_numeral digits = nat_lt 0 (length digits) && list_all (λ digit. nat_lt (digit_value digit) 10) digits

abbrev pub fits_i64 : ℤ → Bool
fits_i64 (pos n) = nat_lt n (2 ^ 63)
fits_i64 (negsuc n) = nat_lt n (2 ^ 63)

-- an i64 is read from the text, and lies between these
abbrev pub is_number_in : ℕ → ℕ → List ℕ → Bool
is_number_in least most text =
    let number = signed_digits_value 10 text in
    is_numeral (without_leading_sign text) && (fits_i64 number && (int_le (pos least) number && int_le number (pos most)))

-- the text may be given for this part; which words are modes is asked at the end
abbrev pub is_right : Part → List ℕ → Bool
is_right mode text = true
is_right page text = is_number_in 1 1000 text
is_right workers text = is_number_in 1 8 text
is_right seed text = is_number_in 0 4294967295 text

-- one part more, which was not given before
abbrev pub with_part : Part → List ℕ → List Given → Option (List Given)
with_part part text given = if not (is_given part given) && is_right part text then Some (given ++ (part, text) ∷ []) else None

-- ---- the form of a word

pub data Form : Type 0 where
  -- `--`
  ends : Form
  -- `--page`, whose number is the next word
  option : Part → Form
  -- `--page=5`
  option_with : Part → List ℕ → Form
  -- another word that begins with `-`, and is longer
  unknown : Form
  -- any other word
  plain : Form

abbrev pub option_named : List ℕ → Option Part
option_named name =
    if bytes_eq (codes "page") name then Some page
    else if bytes_eq (codes "workers") name then Some workers
    else if bytes_eq (codes "seed") name then Some seed
    else None

abbrev pub with_number : Option Part → Option (List ℕ) → Form
with_number None number = unknown
with_number (Some part) None = option part
with_number (Some part) (Some number) = option_with part number

-- what stands behind the first `=`, if there is one
abbrev pub number_behind : List ℕ → Option (List ℕ)
number_behind text = if list_any (λ byte. byte == 61) text then Some (after_first (λ byte. byte == 61) text) else None

-- the form of a word by what follows `--`, by what follows `-`, and by the whole word
abbrev pub option_form : List ℕ → Form
option_form [] = ends
option_form (byte ∷ text) = with_number (option_named (before_first (λ one. one == 61) (byte ∷ text))) (number_behind (byte ∷ text))

abbrev pub hyphen_form : List ℕ → Form
hyphen_form [] = plain
hyphen_form (byte ∷ text) = if byte == 45 then option_form text else unknown

abbrev pub form_of : List ℕ → Form
form_of [] = plain
form_of (byte ∷ text) = if byte == 45 then hyphen_form text else plain

abbrev pub begins_with_hyphen : List ℕ → Bool
begins_with_hyphen [] = false
begins_with_hyphen (byte ∷ text) = byte == 45

-- ---- the words in turn

-- what the next word may be
pub data Place : Type 0 where
  -- a mode, an option or `--`
  any_word : Place
  -- the number of this option
  number_of : Part → Place
  -- a mode, since `--` stands before
  mode_only : Place

abbrev pub Read : Type 0
Read = Option (Place × List Given)

-- one part more, and what may follow
abbrev pub then_at : Place → Part → List ℕ → List Given → Read
then_at place part text given = option_map (λ more. (place, more)) (with_part part text given)

abbrev pub word_read : Form → List ℕ → List Given → Read
word_read ends word given = Some (mode_only, given)
word_read (option part) word given = Some (number_of part, given)
word_read (option_with part number) word given = then_at any_word part number given
word_read unknown word given = None
word_read plain word given = then_at any_word mode word given

abbrev pub number_read : Part → List ℕ → List Given → Read
number_read part word given = if begins_with_hyphen word then None else then_at any_word part word given

abbrev pub next_read : Place → List ℕ → List Given → Read
next_read any_word word given = word_read (form_of word) word given
next_read (number_of part) word given = number_read part word given
next_read mode_only word given = then_at mode_only mode word given

-- all words were read
abbrev pub end_read : Place → List Given → Option (List Given)
end_read any_word given = Some given
end_read (number_of part) given = None
end_read mode_only given = Some given

-- what the words give, in their order
unfoldable pub parts_from : Place → List (List ℕ) → List Given → Option (List Given)
parts_from place [] given = end_read place given
parts_from place (word ∷ words) given = option_and_then (λ read. parts_from read.0 words read.1) (next_read place word given)

abbrev pub parts_of : List (List ℕ) → Option (List Given)
parts_of words = parts_from any_word words []

-- ---- their meaning

abbrev pub mode_of : List ℕ → Option Mode
mode_of word =
    if bytes_eq word (codes "serial") then Some modes.Serial
    else if bytes_eq word (codes "gen") then Some modes.Generated
    else None

-- the number that a right text spells, or another where none is given
abbrev pub number_or : ℕ → Option (List ℕ) → ℕ
number_or other text = option_map_or (λ digits. digits_value 10 (without_leading_sign digits)) text other

abbrev pub words_in : List Given → Mode → Words
words_in given chosen = record {
  mode = chosen;
  page = number_or 1000 (text_of page given);
  workers = number_or 4 (text_of workers given);
  seed = number_or 0 (text_of seed given);
}

abbrev pub meaning_of_parts : List Given → Option Words
meaning_of_parts given = option_map (words_in given) (option_and_then mode_of (text_of mode given))

-- what the words mean, or none where they are no command line
abbrev pub meaning_of_words : List (List ℕ) → Option Words
meaning_of_words words = option_and_then meaning_of_parts (parts_of words)
