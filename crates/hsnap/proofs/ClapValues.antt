-- What the getters read of the parts that were given.
use Rattle.std.specs.Prelude.{◌≡◌, ◌==◌, ◌<◌, ◌≤◌, ◌^◌, ℕ, Bool, true, false, pos, List, [], ◌∷◌, Option, Some, None, Result, Ok, Err, IfSome, IfNone, option_and_then, option_map, bytes_eq, slice_get, unwrap_or}
use Rattle.std.specs.List.{find}
use Rattle.std.specs.Str.Parse.{IsNumeral, ParsesUnsigned, digits_value, starts_with_minus, without_leading_plus, without_leading_sign}
use Rattle.std.proofs.Common.{refl, ap, sym, subst, cond, drop, true≢false, arith, ◌∙◌}
use Rattle.std.proofs.lemmas.Bool.{ne_eqb}
use Rattle.std.proofs.lemmas.Str.Parse.{digit_from_value}
use Rattle.std.proofs.lemmas.Int.{ints}
use Rattle.clap.specs.Words.{Row, Text, IsSignedIn, first_value, first_of, one_of, one_text, read_as, reading_of, rows_of, without_minus}
use Rattle.clap.specs.Matches.{ReadsOne}
use Rattle.clap.specs.Walk.{row_text}
use Rattle.clap.specs.declared.builder.value_parser.ValueParser.TheVariants as parsers
use Rattle.clap.specs.declared.builder.value_parser.Reading.TheVariants as readings
use Rattle.clap.specs.declared.parser.matches.Found.{Found}
use Rattle.clap.proofs.WalkLemmas.{first_value-rows, one_text-rows, both}
use Rattle.clap.proofs.ValueTestLemmas.{accepts-Accepts}
use Rattle.hsnap.specs.CommandLine.{Part, mode, page, workers, seed, name_of, Given, has_name, is_number_in, is_right, number_or, text_of}
use Rattle.hsnap.specs.inside.ClapRows.{are_right, parser_of, row, rows}
use Rattle.hsnap.proofs.ClapRules.{find-rows}

-- ---- parts are told apart by their names

pub same-part : (p q : Part) → bytes_eq (name_of p) (name_of q) ≡ true → p ≡ q
same-part mode mode e = refl
same-part page page e = refl
same-part workers workers e = refl
same-part seed seed e = refl
same-part mode page e = absurd (true≢false (sym e))
same-part mode workers e = absurd (true≢false (sym e))
same-part mode seed e = absurd (true≢false (sym e))
same-part page mode e = absurd (true≢false (sym e))
same-part page workers e = absurd (true≢false (sym e))
same-part page seed e = absurd (true≢false (sym e))
same-part workers mode e = absurd (true≢false (sym e))
same-part workers page e = absurd (true≢false (sym e))
same-part workers seed e = absurd (true≢false (sym e))
same-part seed mode e = absurd (true≢false (sym e))
same-part seed page e = absurd (true≢false (sym e))
same-part seed workers e = absurd (true≢false (sym e))

-- the text of a part is right
pub right-text : (part : Part) (given : List Given) (text : Text) → are_right given ≡ true → text_of part given ≡ Some text → is_right part text ≡ true
right-text part [] text right is = cc
right-text part (one ∷ given) text right is = go (right-text part given text (both (is_right one.0 one.1) (are_right given) right).1) (has_name part one) refl is
  where
    go : (option_map (λ (x : Given). x.1) (find (has_name part) given) ≡ Some text → is_right part text ≡ true)
        → (b : Bool) → has_name part one ≡ b → option_map (λ (x : Given). x.1) (cond b (Some one) (find (has_name part) given)) ≡ Some text → is_right part text ≡ true
    go rest true named found =
        let same : one.1 ≡ text = cc in
        subst (λ p. is_right p text ≡ true) (same-part one.0 part named) (subst (λ t. is_right one.0 t ≡ true) same (both (is_right one.0 one.1) (are_right given) right).0)
    go rest false named found = rest found

-- ---- texts

pub first-text : (f : Found) (part : Part) (given : List Given) → rows_of f ≡ rows given → first_value f (name_of part) ≡ text_of part given
first-text f part given is = first_value-rows f (name_of part) ∙ (ap (first_of (name_of part)) is
    ∙ (ap (λ o. option_and_then (λ (r : Row). slice_get r.values 0) o) (find-rows part given) ∙ go (find (has_name part) given)))
  where
    go : (o : Option Given) → option_and_then (λ (r : Row). slice_get r.values 0) (option_map row o) ≡ option_map (λ (x : Given). x.1) o
    go None = refl
    go (Some one) = refl

-- the parts whose values are numbers
abbrev pub Bounds : Part → ℕ → ℕ → Type 0
Bounds part low high = ((text : Text) → is_right part text ≡ is_number_in low high text) × (reading_of (parser_of part) ≡ readings.WithoutMinus)

option-text : (part : Part) (given : List Given) → reading_of (parser_of part) ≡ readings.WithoutMinus
    → option_and_then row_text (option_map row (find (has_name part) given)) ≡ option_map without_minus (text_of part given)
option-text part [] reading = refl
option-text part (one ∷ given) reading = go (has_name part one) refl (option-text part given reading)
  where
    go : (b : Bool) → has_name part one ≡ b → option_and_then row_text (option_map row (find (has_name part) given)) ≡ option_map without_minus (text_of part given)
        → option_and_then row_text (option_map row (cond b (Some one) (find (has_name part) given))) ≡ option_map without_minus (option_map (λ (x : Given). x.1) (cond b (Some one) (find (has_name part) given)))
    go true named next = ap (λ how. Some (read_as how one.1)) (ap (λ p. reading_of (parser_of p)) (same-part one.0 part named) ∙ reading)
    go false named next = next

pub number-text : (f : Found) (part : Part) (given : List Given) → reading_of (parser_of part) ≡ readings.WithoutMinus → rows_of f ≡ rows given
    → one_text f (name_of part) ≡ option_map without_minus (text_of part given)
number-text f part given reading is = one_text-rows f (name_of part) ∙ (ap (one_of (name_of part)) is ∙ (ap (λ o. option_and_then row_text o) (find-rows part given) ∙ option-text part given reading))

-- ---- numbers

without_minus-cond : (t : Text) → without_minus t ≡ cond (starts_with_minus t) (drop 1 t) t
without_minus-cond [] = refl
without_minus-cond (x ∷ xs) = go (x == 45)
  where
    go : (b : Bool) → unwrap_or (cond b (Some xs) None) (x ∷ xs) ≡ cond b xs (x ∷ xs)
    go true = refl
    go false = refl

no-plus : (digits : Text) → IsNumeral 10 digits → without_leading_plus digits ≡ digits
no-plus [] h = refl
no-plus (d ∷ ds) h =
    let plus : (d == 43) ≡ false = ne_eqb _ _ (λ e. omega (arith, digit_from_value d h.1.0)) in
    ap (λ (b : Bool). drop (cond b 1 0) (d ∷ ds)) plus

abbrev pub spelled : Text → ℕ
spelled text = digits_value 10 (without_leading_sign text)

-- what is read of a number's text
abbrev pub IsNumberOf : Text → ℕ → ℕ → Option ℕ → Type 0
IsNumberOf text low high r = (r ≡ Some (spelled text)) × (low ≤ spelled text) × (spelled text ≤ high)

-- a text in a range without negative numbers reads as its number
signed-value : {E : Type 0} (G : Text → Result ℕ E → Type 0) (k low high : ℕ) (t : Text) (r : Option ℕ)
    → ReadsOne G (without_minus t) r → ((u : Text) (x : Result ℕ E) → G u x → ParsesUnsigned k 10 u x) → high < 2 ^ k
    → IsSignedIn (pos low) (pos high) t → IsNumberOf t low high r
signed-value {E = E} G k low high t r read only fits passed =
    go (starts_with_minus t) refl r (subst (λ (u : Text). ReadsOne G u r) (without_minus-cond t) read)
  where
    go : (b : Bool) → starts_with_minus t ≡ b → (o : Option ℕ) → ReadsOne G (cond (starts_with_minus t) (drop 1 t) t) o → IsNumberOf t low high o
    go true minus (Some v) h =
        let low_ok = rw minus at passed.2 in
        let high_ok = rw minus at passed.3 in
        let numeral : IsNumeral 10 (drop 1 t) = rw minus at passed.0 in
        let parsed = only (drop 1 t) (Ok v) (rw minus at h) in
        let is : v ≡ digits_value 10 (drop 1 t) = parsed.1 ∙ ap (digits_value 10) (no-plus (drop 1 t) numeral) in
        rw minus (ap (λ (n : ℕ). Some n) is, omega (arith, ints), omega (arith, ints))
    go true minus None h =
        let low_ok = rw minus at passed.2 in
        let high_ok = rw minus at passed.3 in
        let numeral : IsNumeral 10 (drop 1 t) = rw minus at passed.0 in
        let same = no-plus (drop 1 t) numeral in
        let small : digits_value 10 (drop 1 t) < 2 ^ k = omega (arith, ints) in
        absurd (only (drop 1 t) (Err h.0) (rw minus at h.1) (rw same numeral, rw same small))
    go false minus (Some v) h =
        let low_ok = rw minus at passed.2 in
        let high_ok = rw minus at passed.3 in
        let parsed = only t (Ok v) (rw minus at h) in
        rw minus (ap (λ (n : ℕ). Some n) parsed.1, omega (arith, ints), omega (arith, ints))
    go false minus None h =
        let low_ok = rw minus at passed.2 in
        let high_ok = rw minus at passed.3 in
        let numeral = rw minus at passed.0 in
        absurd (only t (Err h.0) (rw minus at h.1) (numeral, omega (arith, ints)))

-- what is read of a part that may be given
abbrev pub IsRead : Option Text → ℕ → ℕ → Option ℕ → Type 0
IsRead None low high r = r ≡ None
IsRead (Some text) low high r = IsNumberOf text low high r

pub number-read : {E : Type 0} (G : Text → Result ℕ E → Type 0) (k low high : ℕ) (f : Found) (part : Part) (given : List Given) (r : Option ℕ)
    → Bounds part low high → are_right given ≡ true → rows_of f ≡ rows given
    → (one_text f (name_of part) ≡ None → r ≡ None) → ((t : Text) → one_text f (name_of part) ≡ Some t → ReadsOne G t r)
    → ((u : Text) (x : Result ℕ E) → G u x → ParsesUnsigned k 10 u x) → high < 2 ^ k → IsRead (text_of part given) low high r
number-read {E = E} G k low high f part given r bounds right is none value only fits = go (text_of part given) refl
  where
    go : (o : Option Text) → text_of part given ≡ o → IsRead o low high r
    go None found = none (number-text f part given bounds.1 is ∙ ap (λ o. option_map without_minus o) found)
    go (Some t) found = signed-value G k low high t r (value (without_minus t) (number-text f part given bounds.1 is ∙ ap (λ o. option_map without_minus o) found)) only fits
        (accepts-Accepts false (parsers.Signed (pos low) (pos high)) t (sym (bounds.0 t) ∙ right-text part given t right found))

-- a number, or another where none is given
pub number-or : (o : Option Text) (low high other : ℕ) (r : Option ℕ) → IsRead o low high r → unwrap_or r other ≡ number_or other o
number-or None low high other r read = ap (λ (x : Option ℕ). unwrap_or x other) read
number-or (Some text) low high other r read = ap (λ (x : Option ℕ). unwrap_or x other) read.0

-- the size of a page
pub page-or : (o : Option Text) (entries other : ℕ) (size : Option ℕ) → IsRead o 1 1000 (Some entries) → IfSome size (λ n. (n ≡ entries) × (1 ≤ entries) × (entries ≤ 1000))
    → IfNone size (1 ≤ entries → 1001 ≤ entries) → unwrap_or size other ≡ number_or 1000 o
page-or None entries other size read some none = absurd (cc)
page-or (Some text) entries other (Some n) read some none =
    let same : entries ≡ spelled text = cc in
    some.0 ∙ same
page-or (Some text) entries other None read some none =
    let same : entries ≡ spelled text = cc in
    absurd (omega (arith, none, same, read.1, read.2))

pub page-none : (o : Option Text) → IsRead o 1 1000 None → 1000 ≡ number_or 1000 o
page-none None read = refl
page-none (Some text) read = absurd (cc)
