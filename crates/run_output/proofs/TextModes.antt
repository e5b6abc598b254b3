-- What `{:04o}` writes of a mode.
use Rattle.std.proofs.Common.{◌≡◌, ℕ, ◌-◌, ◌/◌, ◌%◌, ◌^◌, ◌<◌, ◌≤◌, List, [], ◌∷◌, true, false, nat_lt, nat_eq, suc, ◌∙◌, ap, refl, arith, ⊎_elim}
use Rattle.std.proofs.lemmas.Bool.{cases_lt}
use Rattle.std.proofs.lemmas.Bool.Decides.{nat_tests}
use Rattle.std.specs.Fmt.{digits, digits_onto, digit_glyph, padded_integral, format_spec, char_count}
use Rattle.run_output.specs.TextParts.{octal_digit, mode_text}

octal_glyph : (n : ℕ) → digit_glyph false (n % 8) ≡ octal_digit n
octal_glyph n = let low : nat_lt (n % 8) 10 ≡ true = grind (arith, nat_tests) in rw low

-- the digit of a number below 8 is the first
octal_last : (n k : ℕ) (after : List ℕ) → n < 8 → digits_onto (suc k) 8 false n after ≡ octal_digit n ∷ after
octal_last n k after small =
    let none : nat_eq (n / 8) 0 ≡ true = grind (arith, nat_tests) in rw none (ap (λ d. d ∷ after) (octal_glyph n))

-- the last digit of a number stands behind those of its eighth
octal_step : (n k : ℕ) (after : List ℕ) → 8 ≤ n → digits_onto (suc k) 8 false n after ≡ digits_onto k 8 false (n / 8) (octal_digit n ∷ after)
octal_step n k after large =
    let some : nat_eq (n / 8) 0 ≡ false = grind (arith, nat_tests) in
    rw some (ap (λ d. digits_onto k 8 false (n / 8) (d ∷ after)) (octal_glyph n))

octal_digits : (n : ℕ) → digits 8 false n ≡ digits_onto 64 8 false n []
unfolding digits
octal_digits n = refl

octal_one : (n : ℕ) → n < 8 → digits 8 false n ≡ octal_digit n ∷ []
octal_one n small = octal_digits n ∙ octal_last n 63 [] small

octal_two : (n : ℕ) → 8 ≤ n → n < 64 → digits 8 false n ≡ octal_digit (n / 8) ∷ octal_digit n ∷ []
octal_two n large small =
    octal_digits n ∙ octal_step n 63 [] large
    ∙ octal_last (n / 8) 62 (octal_digit n ∷ []) (omega arith)

octal_three : (n : ℕ) → 64 ≤ n → n < 512 → digits 8 false n ≡ octal_digit (n / 64) ∷ octal_digit (n / 8) ∷ octal_digit n ∷ []
octal_three n large small =
    let twice : n / 8 / 8 ≡ n / 64 = omega arith in
    octal_digits n ∙ octal_step n 63 [] (omega arith)
    ∙ octal_step (n / 8) 62 (octal_digit n ∷ []) (omega arith)
    ∙ octal_last (n / 8 / 8) 61 (octal_digit (n / 8) ∷ octal_digit n ∷ []) (omega arith)
    ∙ ap (λ m. octal_digit m ∷ octal_digit (n / 8) ∷ octal_digit n ∷ []) twice

octal_four : (n : ℕ) → 512 ≤ n → n < 4096 → digits 8 false n ≡ mode_text n
octal_four n large small =
    let twice : n / 8 / 8 ≡ n / 64 = omega arith in
    let thrice : n / 8 / 8 / 8 ≡ n / 512 = omega arith in
    octal_digits n ∙ octal_step n 63 [] (omega arith)
    ∙ octal_step (n / 8) 62 (octal_digit n ∷ []) (omega arith)
    ∙ octal_step (n / 8 / 8) 61 (octal_digit (n / 8) ∷ octal_digit n ∷ []) (omega arith)
    ∙ octal_last (n / 8 / 8 / 8) 60 (octal_digit (n / 8 / 8) ∷ octal_digit (n / 8) ∷ octal_digit n ∷ []) (omega arith)
    ∙ ap (λ m. octal_digit m ∷ octal_digit (n / 8 / 8) ∷ octal_digit (n / 8) ∷ octal_digit n ∷ []) thrice
    ∙ ap (λ m. octal_digit (n / 512) ∷ octal_digit m ∷ octal_digit (n / 8) ∷ octal_digit n ∷ []) twice

-- the digits of a number below 10000 octal, with zeros before them up to four
pub padded-octal : (n : ℕ) → n < 4096 → padded_integral (format_spec 32 0 4 4 (2 ^ 64 - 1)) false [] (digits 8 false n) ≡ mode_text n
unfolding padded_integral char_count
padded-octal n small =
    let eighth : n < 8 → n / 8 ≡ 0 = λ below. omega arith in
    let of_64 : n < 64 → n / 64 ≡ 0 = λ below. omega arith in
    let of_512 : n < 512 → n / 512 ≡ 0 = λ below. omega arith in
    ⊎_elim
    (λ one. rw (octal_one n one, eighth one, of_64 (omega arith), of_512 (omega arith)))
    (λ more. ⊎_elim
    (λ two. rw (octal_two n more two, of_64 two, of_512 (omega arith)))
    (λ more. ⊎_elim
    (λ three. rw (octal_three n more three, of_512 three))
    (λ more. rw (octal_four n more small))
    (cases_lt n 512))
    (cases_lt n 64))
    (cases_lt n 8)
