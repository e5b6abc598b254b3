-- What `clap` finds in the words is what they give.
use Rattle.std.specs.Prelude.{◌≡◌, ◌==◌, ◌&&◌, ◌||◌, Bool, true, false, not, List, [], ◌∷◌, ◌++◌, Option, Some, None, option_and_then, option_map, bytes_eq, codes}
use Rattle.std.specs.Option.{option_map_or}
use Rattle.std.specs.List.{All, find, before_first}
use Rattle.std.specs.Str.{IsUtf8}
use Rattle.std.proofs.Common.{refl, ap, sym, cond, true≢false, arith, ◌∙◌}
use Rattle.std.proofs.lemmas.List.Elements.{All-tail}
use Rattle.std.proofs.lemmas.List.Folds.{list_any-append}
use Rattle.clap.specs.Words.{Row, Text}
use Rattle.clap.specs.Facts.{explicit_source}
use Rattle.clap.specs.Takes.{is_given as is_given_by_rows}
use Rattle.clap.specs.Walk.{Walk, used, used_by_id}
use Rattle.clap.specs.Faults.{use_fault}
use Rattle.clap.specs.declared.error.kind.ErrorKind.{ErrorKind}
use Rattle.hsnap.specs.CommandLine.{Part, mode, page, workers, seed, name_of, Given, has_name, is_given, is_right, Form, ends, option as option_word, option_with, unknown, plain, form_of, option_form, hyphen_form, number_behind, with_number}
use Rattle.hsnap.specs.CommandLine.{Place, any_word, number_of, mode_only, Read, then_at, word_read, number_read, parts_from}
use Rattle.hsnap.specs.inside.ClapRows.{row, rows}
use Rattle.hsnap.proofs.ClapRules.{by_id, false-else, find-rows, passing, rule, use-passes, use-rows}
use Rattle.hsnap.proofs.ClapTurns.{at-hyphen, first-value, form_found, found, idle_walk, option_walk, other-value, settled_as, trailing-found, value_found, word-found}
use Rattle.hsnap.proofs.ClapReads.{end-found, number-empty, number-hyphen, number-plain, place_of, rows_found, settling, waits-fail, waits-hyphen}

-- ---- the end

mode-kind : (b : Bool) (kind : ErrorKind) → passing (cond (not b || false) (kind ∷ []) []) ≡ b
mode-kind true kind = refl
mode-kind false kind = refl

any-found : (given : List Given) → option_map_or (λ (r : Row). explicit_source r.source) (option_map row (find (has_name mode) given)) false ≡ is_given mode given
any-found [] = refl
any-found (one ∷ given) = go (has_name mode one) (any-found given)
  where
    go : (b : Bool) → option_map_or (λ (r : Row). explicit_source r.source) (option_map row (find (has_name mode) given)) false ≡ is_given mode given
        → option_map_or (λ (r : Row). explicit_source r.source) (option_map row (cond b (Some one) (find (has_name mode) given))) false ≡ (b || is_given mode given)
    go true next = refl
    go false next = next

-- the rows, where a mode is given
abbrev pub if_mode : List Given → Option (List Row)
if_mode given = cond (is_given mode given) (Some (rows given)) None

rows-found : (given : List Given) → rows_found (rows given) ≡ if_mode given
rows-found given = ap (λ b. cond b (Some (rows given)) None)
    (mode-kind (is_given_by_rows (name_of mode) (rows given)) _ ∙ (ap (λ o. option_map_or (λ (r : Row). explicit_source r.source) o false) (find-rows mode given) ∙ any-found given))

-- ---- one part more

abbrev pub finish : Option (List Given) → Option (List Row)
finish = option_and_then if_mode

abbrev pub walk_at : Place → List Given → Walk
walk_at any_word given = idle_walk (rows given) None (place_of (is_given mode given)) false
walk_at (number_of part) given = option_walk (rows given) part (place_of (is_given mode given)) false
walk_at mode_only given = idle_walk (rows given) None (place_of (is_given mode given)) true

-- what is found from a place on
abbrev pub Reads : List Text → Place → List Given → Type 0
Reads words place given = found (walk_at place given) words ≡ finish (parts_from place words given)

-- only options wait for numbers
abbrev pub is_option : Part → Bool
is_option part = not (bytes_eq (name_of part) (codes "mode"))

abbrev pub is_fit : Place → Bool
is_fit any_word = true
is_fit (number_of part) = is_option part
is_fit mode_only = true

abbrev after : Place → List Text → Read → Option (List Row)
after place words read = finish (option_and_then (λ next. parts_from next.0 words next.1) read)

-- a part that was read is given, or all fails
part-found : (part : Part) (text : Text) (given : List Given) (has trailing : Bool) (place : Place) (words : List Text)
    → (is_given part given ≡ false → found (idle_walk (rows (given ++ (part, text) ∷ [])) None (place_of has) trailing) words ≡ finish (parts_from place words (given ++ (part, text) ∷ [])))
    → cond (passing (use_fault false (rule part) (text ∷ []) (rows given))) (found (idle_walk (used (rule part) (text ∷ []) (rows given)) None (place_of has) trailing) words) None
    ≡ after place words (then_at place part text given)
part-found part text given has trailing place words next =
    ap (λ b. cond b (found (idle_walk (used (rule part) (text ∷ []) (rows given)) None (place_of has) trailing) words) None) (use-passes part text given)
    ∙ go (is_given part given) (is_right part text) refl
  where
    go : (b c : Bool) → is_given part given ≡ b
        → cond (not b && c) (found (idle_walk (used (rule part) (text ∷ []) (rows given)) None (place_of has) trailing) words) None
        ≡ after place words (option_map (λ more. (place, more)) (cond (not b && c) (Some (given ++ (part, text) ∷ [])) None))
    go true c is = refl
    go false true is = ap (λ xs. found (idle_walk xs None (place_of has) trailing) words) (use-rows part text given is) ∙ next is
    go false false is = refl

-- and so where it waits for the next word
waiting-found : (part : Part) (text : Text) (given : List Given) (has trailing : Bool) (place : Place) (words : List Text) → All IsUtf8 words
    → (is_given part given ≡ false → found (idle_walk (rows (given ++ (part, text) ∷ [])) None (place_of has) trailing) words ≡ finish (parts_from place words (given ++ (part, text) ∷ [])))
    → found (idle_walk (rows given) (Some (name_of part, text ∷ [])) (place_of has) trailing) words ≡ after place words (then_at place part text given)
waiting-found part text given has trailing place words texts next =
    settling words (rows given) (Some (name_of part, text ∷ [])) has trailing texts
    ∙ (ap (λ a. cond (passing (option_map_or (λ x. use_fault false x (text ∷ []) (rows given)) a [])) (found (idle_walk (used_by_id a (text ∷ []) (rows given)) None (place_of has) trailing) words) None) (by_id part)
    ∙ part-found part text given has trailing place words next)

-- ---- whether a mode is given

false-and : (b : Bool) → (b && false) ≡ false
false-and true = refl
false-and false = refl

mode-more : (part : Part) (text : Text) (given : List Given) (b : Bool) → bytes_eq (name_of part) (name_of mode) ≡ b → is_given mode (given ++ (part, text) ∷ []) ≡ (is_given mode given || (b || false))
mode-more part text given b is = list_any-append (has_name mode) given ((part, text) ∷ []) ∙ ap (λ c. is_given mode given || (c || false)) is

not-true : (b : Bool) → not b ≡ true → b ≡ false
not-true true e = sym e
not-true false e = refl

option-keeps : (part : Part) (text : Text) (given : List Given) → is_option part ≡ true → is_given mode given ≡ is_given mode (given ++ (part, text) ∷ [])
option-keeps part text given fit = sym (mode-more part text given false (not-true (bytes_eq (name_of part) (name_of mode)) fit) ∙ false-else (is_given mode given))

mode-given : (text : Text) (given : List Given) → is_given mode given ≡ false → true ≡ is_given mode (given ++ (mode, text) ∷ [])
mode-given text given none = sym (mode-more mode text given true refl ∙ ap (λ b. b || true) none)

-- ---- one word

-- a word that is taken for the mode
mode-found : (word : Text) (given : List Given) (trailing : Bool) (place : Place) (words : List Text) → All IsUtf8 words
    → (is_given mode given ≡ false → found (idle_walk (rows (given ++ (mode, word) ∷ [])) None 2 trailing) words ≡ finish (parts_from place words (given ++ (mode, word) ∷ [])))
    → value_found (rows given) None (place_of (is_given mode given)) trailing word words ≡ after place words (then_at place mode word given)
mode-found word given trailing place words texts next = go (is_given mode given) refl
  where
    go : (b : Bool) → is_given mode given ≡ b
        → value_found (rows given) None (place_of (is_given mode given)) trailing word words ≡ after place words (then_at place mode word given)
    go true is = ap (λ b. value_found (rows given) None (place_of b) trailing word words) is
        ∙ (other-value (rows given) None trailing word words
        ∙ ap (λ b. after place words (option_map (λ more. (place, more)) (cond (not b && true) (Some (given ++ (mode, word) ∷ [])) None))) (sym is))
    go false is = ap (λ b. value_found (rows given) None (place_of b) trailing word words) is
        ∙ (first-value (rows given) None trailing word words ∙ waiting-found mode word given true trailing place words texts next)

abbrev is_fit_form : Form → Bool
is_fit_form ends = true
is_fit_form (option_word part) = is_option part
is_fit_form (option_with part number) = is_option part
is_fit_form unknown = true
is_fit_form plain = true

named-fits : (a b c : Bool) (number : Option Text) → is_fit_form (with_number (cond a (Some page) (cond b (Some workers) (cond c (Some seed) None))) number) ≡ true
named-fits true b c None = refl
named-fits true b c (Some number) = refl
named-fits false true c None = refl
named-fits false true c (Some number) = refl
named-fits false false true None = refl
named-fits false false true (Some number) = refl
named-fits false false false number = refl

option-fits : (text : Text) → is_fit_form (option_form text) ≡ true
option-fits [] = refl
option-fits (byte ∷ text) =
    let name = before_first (λ one. one == 61) (byte ∷ text) in
    named-fits (bytes_eq (codes "page") name) (bytes_eq (codes "workers") name) (bytes_eq (codes "seed") name) (number_behind (byte ∷ text))

either-fits : (b : Bool) (x y : Form) → is_fit_form x ≡ true → is_fit_form y ≡ true → is_fit_form (cond b x y) ≡ true
either-fits true x y e f = e
either-fits false x y e f = f

hyphen-fits : (text : Text) → is_fit_form (hyphen_form text) ≡ true
hyphen-fits [] = refl
hyphen-fits (byte ∷ text) = either-fits (byte == 45) (option_form text) unknown (option-fits text) refl

form-fits : (word : Text) → is_fit_form (form_of word) ≡ true
form-fits [] = refl
form-fits (byte ∷ text) = either-fits (byte == 45) (hyphen_form text) plain (hyphen-fits text) refl

abbrev ReadsOn : List Text → Type 0
ReadsOn words = (place : Place) (given : List Given) → is_fit place ≡ true → Reads words place given

-- what was found with one option more
option-next : (part : Part) (text : Text) (given : List Given) (words : List Text) → is_option part ≡ true → ReadsOn words
    → found (idle_walk (rows (given ++ (part, text) ∷ [])) None (place_of (is_given mode given)) false) words ≡ finish (parts_from any_word words (given ++ (part, text) ∷ []))
option-next part text given words fit next =
    ap (λ b. found (idle_walk (rows (given ++ (part, text) ∷ [])) None (place_of b) false) words) (option-keeps part text given fit) ∙ next any_word (given ++ (part, text) ∷ []) refl

mode-next : (word : Text) (given : List Given) (words : List Text) → ReadsOn words → is_given mode given ≡ false
    → found (idle_walk (rows (given ++ (mode, word) ∷ [])) None 2 false) words ≡ finish (parts_from any_word words (given ++ (mode, word) ∷ []))
mode-next word given words next none =
    ap (λ b. found (idle_walk (rows (given ++ (mode, word) ∷ [])) None (place_of b) false) words) (mode-given word given none) ∙ next any_word (given ++ (mode, word) ∷ []) refl

last-next : (word : Text) (given : List Given) (words : List Text) → ReadsOn words → is_given mode given ≡ false
    → found (idle_walk (rows (given ++ (mode, word) ∷ [])) None 2 true) words ≡ finish (parts_from mode_only words (given ++ (mode, word) ∷ []))
last-next word given words next none =
    ap (λ b. found (idle_walk (rows (given ++ (mode, word) ∷ [])) None (place_of b) true) words) (mode-given word given none) ∙ next mode_only (given ++ (mode, word) ∷ []) refl

form-reads : (form : Form) (word : Text) (given : List Given) (words : List Text) → is_fit_form form ≡ true → All IsUtf8 words → ReadsOn words
    → form_found form (rows given) None (place_of (is_given mode given)) word words ≡ finish (option_and_then (λ read. parts_from read.0 words read.1) (word_read form word given))
form-reads ends word given words fit texts next = next mode_only given refl
form-reads (option_word part) word given words fit texts next = next (number_of part) given fit
form-reads (option_with part number) word given words fit texts next =
    part-found part number given (is_given mode given) false any_word words (λ none. option-next part number given words fit next)
form-reads unknown word given words fit texts next = refl
form-reads plain word given words fit texts next = mode-found word given false any_word words texts (mode-next word given words next)

-- ---- the number of an option

hyphen-wrong : (part : Part) → is_option part ≡ true → is_right part (45 ∷ []) ≡ false
hyphen-wrong mode fit = absurd (true≢false (sym fit))
hyphen-wrong page fit = refl
hyphen-wrong workers fit = refl
hyphen-wrong seed fit = refl

number-found : (part : Part) (text : Text) (given : List Given) (words : List Text) → is_option part ≡ true → All IsUtf8 words → ReadsOn words
    → found (idle_walk (rows given) (Some (name_of part, text ∷ [])) (place_of (is_given mode given)) false) words ≡ after any_word words (then_at any_word part text given)
number-found part text given words fit texts next =
    waiting-found part text given (is_given mode given) false any_word words texts (λ none. option-next part text given words fit next)

number-reads : (part : Part) (word : Text) (given : List Given) (words : List Text) → is_option part ≡ true → IsUtf8 word → All IsUtf8 words → ReadsOn words
    → found (option_walk (rows given) part (place_of (is_given mode given)) false) (word ∷ words) ≡ after any_word words (number_read part word given)
number-reads part [] given words fit spelled texts next =
    number-empty (rows given) part (place_of (is_given mode given)) words ∙ number-found part [] given words fit texts next
number-reads part (byte ∷ text) given words fit spelled texts next = go (byte == 45) refl text spelled
  where
    go : (b : Bool) → (byte == 45) ≡ b → (rest : Text) → IsUtf8 (byte ∷ rest)
        → found (option_walk (rows given) part (place_of (is_given mode given)) false) ((byte ∷ rest) ∷ words) ≡ after any_word words (cond b None (then_at any_word part (byte ∷ rest) given))
    go true is [] spelled = at-hyphen (λ y. found (option_walk (rows given) part (place_of (is_given mode given)) false) ((y ∷ []) ∷ words) ≡ None) byte is
        (number-hyphen (rows given) part (place_of (is_given mode given)) words
        ∙ (number-found part (45 ∷ []) given words fit texts next
        ∙ ap (λ b. after any_word words (option_map (λ more. (any_word, more)) (cond b (Some (given ++ (part, 45 ∷ []) ∷ [])) None)))
        (ap (λ b. not (is_given part given) && b) (hyphen-wrong part fit) ∙ false-and (not (is_given part given)))))
    go true is (more ∷ rest) spelled = at-hyphen (λ y. IsUtf8 (y ∷ more ∷ rest) → found (option_walk (rows given) part (place_of (is_given mode given)) false) ((y ∷ more ∷ rest) ∷ words) ≡ None) byte is
        (λ at. waits-hyphen (rows given) part (is_given mode given) more rest words at) spelled
    go false is rest spelled = number-plain (rows given) part (place_of (is_given mode given)) byte rest words is ∙ number-found part (byte ∷ rest) given words fit texts next

-- ---- all words

pub reads : (words : List Text) → All IsUtf8 words → ReadsOn words
unfolding parts_from
reads [] texts any_word given fit = end-found (walk_at any_word given) ∙ rows-found given
reads [] texts (number_of part) given fit = end-found (walk_at (number_of part) given) ∙ ap (λ b. cond b (rows_found (settled_as (rows given) (Some (name_of part, [])))) None) (waits-fail (rows given) part)
reads [] texts mode_only given fit = end-found (walk_at mode_only given) ∙ rows-found given
reads (word ∷ words) texts any_word given fit = word-found (rows given) None (place_of (is_given mode given)) word words (texts 0 word (omega arith))
    ∙ form-reads (form_of word) word given words (form-fits word) (All-tail IsUtf8 word words texts) (reads words (All-tail IsUtf8 word words texts))
reads (word ∷ words) texts (number_of part) given fit = number-reads part word given words fit (texts 0 word (omega arith)) (All-tail IsUtf8 word words texts) (reads words (All-tail IsUtf8 word words texts))
reads (word ∷ words) texts mode_only given fit = trailing-found (rows given) None (place_of (is_given mode given)) word words
    ∙ mode-found word given true mode_only words (All-tail IsUtf8 word words texts) (last-next word given words (reads words (All-tail IsUtf8 word words texts)))
