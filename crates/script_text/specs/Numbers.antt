-- Numbers that words spell, by digits only.
use Rattle.std.specs.Prelude.{ℕ, Bool, ◌&&◌, nat_le, if◌then◌else◌, List, length, Option, Some, None}
use Rattle.std.specs.List.{list_all}
use Rattle.std.specs.Char.{is_digit}
use Rattle.std.specs.Str.Parse.{digits_value}

-- from so many to so many digits of the radix, and nothing else
abbrev pub is_numeral : ℕ → ℕ → ℕ → List ℕ → Bool
is_numeral radix least most word = nat_le least (length word) && nat_le (length word) most && list_all (λ byte. is_digit byte radix) word

-- the number that they spell
abbrev pub number_of : ℕ → ℕ → ℕ → List ℕ → Option ℕ
number_of radix least most word = if is_numeral radix least most word then Some (digits_value radix word) else None

-- at most ten decimal digits
abbrev pub decimal_of : List ℕ → Option ℕ
decimal_of word = number_of 10 1 10 word

abbrev pub up_to : ℕ → Option ℕ → Option ℕ
up_to most None = None
up_to most (Some number) = if nat_le number most then Some number else None

-- how many bytes, 0 to 65,536
abbrev pub count_of : List ℕ → Option ℕ
count_of word = up_to 65536 (decimal_of word)

-- two hexadecimal digits
abbrev pub byte_of : List ℕ → Option ℕ
byte_of word = number_of 16 2 2 word

-- 1 to 4 octal digits, at most 1777
abbrev pub mode_of : List ℕ → Option ℕ
mode_of word = up_to 1023 (number_of 8 1 4 word)
