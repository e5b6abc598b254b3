-- The parts that printed lines are made of: words, escaped texts, modes, and the ends of lines.
use Rattle.std.specs.Prelude.{ℕ, ◌+◌, ◌-◌, ◌/◌, ◌%◌, ◌^◌, List, [], ◌∷◌, ◌++◌, codes}
use Rattle.std.specs.List.{join_with_byte}
use Rattle.percent_encoding.specs.declared.ascii_set.AsciiSet.{AsciiSet}
use Rattle.percent_encoding.specs.Percent.{percent_encode}

-- words with a space between any two
abbrev pub spaced : List (List ℕ) → List ℕ
spaced words = join_with_byte 32 words

-- a line with the line feed that ends it
abbrev pub ended : List ℕ → List ℕ
ended line = line ++ 10 ∷ []

-- a further line of a reply
abbrev pub indented : List ℕ → List ℕ
indented line = codes "  " ++ line

-- the escaped bytes, each as one bit: 0 to 31, space, `#`, `%` and 127; from 128 on bytes are always escaped
abbrev pub escape_set : AsciiSet
escape_set = record { mask = (2 ^ 32 - 1) + 2 ^ 32 + 2 ^ 35 + 2 ^ 37 + 2 ^ 127 }

-- a text as it is printed
abbrev pub escaped : List ℕ → List ℕ
escaped text = percent_encode escape_set text

-- bytes as a last word, where there are some
abbrev pub shown : List ℕ → List (List ℕ)
shown [] = []
shown (byte ∷ bytes) = escaped (byte ∷ bytes) ∷ []

-- the last octal digit of a number
abbrev pub octal_digit : ℕ → ℕ
octal_digit number = 48 + number % 8

-- a mode has four octal digits
abbrev pub mode_text : ℕ → List ℕ
mode_text mode = octal_digit (mode / 512) ∷ octal_digit (mode / 64) ∷ octal_digit (mode / 8) ∷ octal_digit mode ∷ []
