-- Digits of a radix.
use Rattle.std.proofs.Common.{◌≡◌, ℕ, ◌+◌, ◌*◌, ◌^◌, ◌<◌, ◌≤◌, nat_lt, nat_le, Bool, true, false, cond, ◌&&◌, Some, None, List, [], ◌∷◌, length, get_or, take, refl, sym, subst, arith}
use Rattle.std.specs.List.{list_all}
use Rattle.std.specs.Char.{digit_value, is_digit}
use Rattle.std.specs.Str.Parse.{AllDigits, digits_value}
use Rattle.std.proofs.lemmas.Int.Digits.{digits_value-lt, digits_value_more}
use Rattle.std.proofs.lemmas.Str.Parse.{digits_value-take-le}
use Rattle.std.proofs.lemmas.Bool.Decides.{nat_tests}
use Rattle.script_text.specs.Numbers.{is_numeral, number_of}
use Rattle.std.proofs.Math.Nat.{pow-le-pow_left, pow-le-pow_right}

both_first : (a b : Bool) → (a && b) ≡ true → a ≡ true
both_first true b e = refl
both_first false b e = e

both_second : (a b : Bool) → (a && b) ≡ true → b ≡ true
both_second true b e = e
both_second false b e = absurd (cc)

all_digits : (radix : ℕ) (word : List ℕ) → list_all (λ byte. is_digit byte radix) word ≡ true → AllDigits radix word
all_digits radix [] all = tt
all_digits radix (c ∷ cs) all =
    let first : nat_lt (digit_value c) radix ≡ true = both_first (is_digit c radix) _ all in
    (grind (arith, nat_tests), all_digits radix cs (both_second (is_digit c radix) _ all))

-- up to ten digits spell a number of forty bits
pub few_digits : (radix : ℕ) (word : List ℕ) → radix ≤ 16 → length word ≤ 10 → list_all (λ byte. is_digit byte radix) word ≡ true → digits_value radix word < 1099511627776
few_digits radix word small short all =
    let value : digits_value radix word < radix ^ length word = digits_value-lt radix word (all_digits radix word all) in
    let first : radix ^ length word ≤ 16 ^ length word = pow-le-pow_left small (length word) in
    let second : 16 ^ length word ≤ 16 ^ 10 = pow-le-pow_right (omega arith) short in
    omega arith

-- one more digit
pub next_digit : (radix : ℕ) (word : List ℕ) (i value : ℕ) → 2 ≤ radix → i < length word → value ≡ digits_value radix (take i word) →
    (digits_value radix (take (i + 1) word) ≡ value * radix + digit_value (get_or word i 0)) × (value * radix + digit_value (get_or word i 0) ≤ digits_value radix word)
next_digit radix word i value large within is =
    let more : digits_value radix (take (i + 1) word) ≡ value * radix + digit_value (get_or word i 0) = subst (λ n. digits_value radix (take (i + 1) word) ≡ n * radix + digit_value (get_or word i 0)) (sym is) (digits_value_more radix word i within) in
    (more, subst (λ n. n ≤ digits_value radix word) more (digits_value-take-le radix word (i + 1) (omega arith)))

numeral_digits : (radix least most : ℕ) (word : List ℕ) → is_numeral radix least most word ≡ true → list_all (λ byte. is_digit byte radix) word ≡ true
numeral_digits radix least most word is = both_second (nat_le least (length word) && nat_le (length word) most) _ is

numeral_short : (radix least most : ℕ) (word : List ℕ) → is_numeral radix least most word ≡ true → length word ≤ most
numeral_short radix least most word is =
    let short : nat_le (length word) most ≡ true = both_second (nat_le least (length word)) _ (both_first (nat_le least (length word) && nat_le (length word) most) _ is) in
    grind (arith, nat_tests)

pub numeral_fits : (radix least most : ℕ) (word : List ℕ) → radix ≤ 16 → most ≤ 10 → is_numeral radix least most word ≡ true → digits_value radix word < 1099511627776
numeral_fits radix least most word small few is =
    let short : length word ≤ most = numeral_short radix least most word is in
    few_digits radix word small (omega arith) (numeral_digits radix least most word is)

two_digits : (word : List ℕ) → is_numeral 16 2 2 word ≡ true → digits_value 16 word < 256
two_digits word is =
    let value : digits_value 16 word < 16 ^ length word = digits_value-lt 16 word (all_digits 16 word (numeral_digits 16 2 2 word is)) in
    let second : 16 ^ length word ≤ 16 ^ 2 = pow-le-pow_right (omega arith) (numeral_short 16 2 2 word is) in
    omega arith

pub byte_fits : (word : List ℕ) (byte : ℕ) → number_of 16 2 2 word ≡ Some byte → byte < 256
byte_fits word byte is =
    elim (is_numeral 16 2 2 word) as (λ b. is_numeral 16 2 2 word ≡ b → cond b (Some (digits_value 16 word)) None ≡ Some byte → byte < 256) [
      | true ↦ λ t e. let same : digits_value 16 word ≡ byte = cc in subst (λ n. n < 256) same (two_digits word t)
      | false ↦ λ t e. absurd (cc)
    ] refl is
