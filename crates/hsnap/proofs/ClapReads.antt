-- `clap` reads the words as the command line says.
use Rattle.std.specs.Prelude.{◌≡◌, ◌==◌, ◌&&◌, ℕ, Bool, true, false, List, [], ◌∷◌, Option, Some, None, option_map, bytes_eq}
use Rattle.std.specs.Option.{option_map_or}
use Rattle.std.specs.List.{All, before_first}
use Rattle.std.specs.Str.{chars, IsUtf8}
use Rattle.std.proofs.Common.{refl, ap, ap₂, sym, cond, true≢false, arith, ◌∙◌}
use Rattle.std.proofs.lemmas.List.Elements.{All-tail}
use Rattle.clap.specs.Words.{Row, Text}
use Rattle.clap.specs.Kinds.{Kinds, or_else}
use Rattle.clap.specs.Lexer.{short_of}
use Rattle.clap.specs.Walk.{Held, Walk, option_word as option_value, arg_by_id, arg_by_long, settled, walked}
use Rattle.clap.specs.Faults.{check_fault, flags_fault, long_fault, settle_fault, turn_fault, use_fault, walk_fault}
use Rattle.clap.specs.declared.error.kind.ErrorKind.TheVariants as kinds
use Rattle.hsnap.specs.CommandLine.{Part, mode, page, workers, seed, name_of, Form, ends, option as option_word, option_with, unknown, plain, form_of, option_named, number_behind}
use Rattle.hsnap.proofs.ClapRules.{all_rules, by_id, by_long, defaults-pass, finished-is, passing, passing-or_else, rule, shape, use-none}
use Rattle.hsnap.proofs.ClapTurns.{at-hyphen, chars-behind, first-value, form_found, found, idle_walk, option_walk, other-value, settled_as, settles, step, trailing-found, value_found, word-found}

-- ---- the end of the words

abbrev pub rows_found : List Row → Option (List Row)
rows_found xs = cond (passing (check_fault shape xs false)) (Some xs) None

end-cond : (a b : Kinds) (xs : List Row) → cond (passing (or_else a (or_else [] b))) (Some xs) None ≡ cond (passing a) (cond (passing b) (Some xs) None) None
end-cond [] b xs = refl
end-cond (kind ∷ kinds) b xs = refl

pub end-found : (w : Walk) → found w [] ≡ cond (passing (settle_fault all_rules false w.held)) (rows_found (settled all_rules w.held).rows) None
unfolding walk_fault
end-found w =
    ap₂ (λ d xs. cond (passing (or_else (settle_fault all_rules false w.held) (or_else d (check_fault shape xs false)))) (Some xs) None) (defaults-pass (settled all_rules w.held).rows) (finished-is w.held)
    ∙ end-cond (settle_fault all_rules false w.held) (check_fault shape (settled all_rules w.held).rows false) (settled all_rules w.held).rows

-- ---- what is pending may as well be settled

cond-none : {X : Type 0} (b : Bool) (x : Option X) → x ≡ cond b x x
cond-none true x = refl
cond-none false x = refl

cond-and : {X : Type 0} (a b : Bool) (x : Option X) → cond (a && b) x None ≡ cond a (cond b x None) None
cond-and true b x = refl
cond-and false b x = refl

abbrev pub place_of : Bool → ℕ
place_of has = cond has 2 1

value-settles : (xs : List Row) (pending : Option (Text × List Text)) (has trailing : Bool) (word : Text) (words : List Text)
    → value_found xs pending (place_of has) trailing word words ≡ cond (settles xs pending) (value_found (settled_as xs pending) None (place_of has) trailing word words) None
value-settles xs pending true trailing word words = other-value xs pending trailing word words
    ∙ (cond-none (settles xs pending) None ∙ ap (λ x. cond (settles xs pending) x None) (sym (other-value (settled_as xs pending) None trailing word words)))
value-settles xs pending false trailing word words = first-value xs pending trailing word words
    ∙ ap (λ x. cond (settles xs pending) x None) (sym (first-value (settled_as xs pending) None trailing word words))

form-settles : (form : Form) (xs : List Row) (pending : Option (Text × List Text)) (has : Bool) (word : Text) (words : List Text)
    → found (idle_walk xs pending (place_of has) true) words ≡ cond (settles xs pending) (found (idle_walk (settled_as xs pending) None (place_of has) true) words) None
    → form_found form xs pending (place_of has) word words ≡ cond (settles xs pending) (form_found form (settled_as xs pending) None (place_of has) word words) None
form-settles ends xs pending has word words next = next
form-settles (option_word part) xs pending has word words next = refl
form-settles (option_with part number) xs pending has word words next = cond-and (settles xs pending) _ _
form-settles unknown xs pending has word words next = cond-none (settles xs pending) None
form-settles plain xs pending has word words next = value-settles xs pending has false word words

pub settling : (words : List Text) (xs : List Row) (pending : Option (Text × List Text)) (has trailing : Bool) → All IsUtf8 words
    → found (idle_walk xs pending (place_of has) trailing) words ≡ cond (settles xs pending) (found (idle_walk (settled_as xs pending) None (place_of has) trailing) words) None
settling [] xs pending has trailing texts = end-found (idle_walk xs pending (place_of has) trailing)
    ∙ ap (λ x. cond (settles xs pending) x None) (sym (end-found (idle_walk (settled_as xs pending) None (place_of has) trailing)))
settling (word ∷ words) xs pending has true texts = trailing-found xs pending (place_of has) word words
    ∙ (value-settles xs pending has true word words ∙ ap (λ x. cond (settles xs pending) x None) (sym (trailing-found (settled_as xs pending) None (place_of has) word words)))
settling (word ∷ words) xs pending has false texts = word-found xs pending (place_of has) word words (texts 0 word (omega arith))
    ∙ (form-settles (form_of word) xs pending has word words (settling words xs pending has true (All-tail IsUtf8 word words texts))
    ∙ ap (λ x. cond (settles xs pending) x None) (sym (word-found (settled_as xs pending) None (place_of has) word words (texts 0 word (omega arith)))))

-- ---- where an option waits for its number

pub waits-fail : (xs : List Row) (part : Part) → settles xs (Some (name_of part, [])) ≡ false
waits-fail xs part = ap (λ a. passing (option_map_or (λ x. use_fault false x [] xs) a [])) (by_id part) ∙ use-none part xs

and-fails : (a b : Bool) → a ≡ false → (a && b) ≡ false
and-fails true b e = absurd (true≢false e)
and-fails false b e = refl

or_else-fails : (a b : Kinds) → passing a ≡ false → passing (or_else a b) ≡ false
or_else-fails a b e = passing-or_else a b ∙ and-fails (passing a) (passing b) e

none-found : (w : Walk) (word : Text) (words : List Text) → passing (turn_fault shape [] w word) ≡ false → found w (word ∷ words) ≡ None
none-found w word words fails = step w word words ∙ ap (λ b. cond b (found (walked all_rules [] w word) words) None) fails

-- no `--` may come between
waits-ends : (xs : List Row) (part : Part) (has : Bool) (words : List Text) → found (option_walk xs part (place_of has) true) words ≡ None
waits-ends xs part has [] = end-found (option_walk xs part (place_of has) true) ∙ ap (λ b. cond b (rows_found (settled_as xs (Some (name_of part, [])))) None) (waits-fail xs part)
waits-ends xs part true (word ∷ words) = none-found (option_walk xs part 2 true) word words refl
waits-ends xs part false (word ∷ words) = none-found (option_walk xs part 1 true) word words
    (ap (λ b. passing (cond b [] (settle_fault all_rules false (option_walk xs part 1 true).held))) (never (bytes_eq (name_of part) (name_of mode))) ∙ waits-fail xs part)
  where
    never : (b : Bool) → (b && false) ≡ false
    never true = refl
    never false = refl

long-fails : (o : Option Part) (number : Option Text) (h : Held) → passing (settle_fault all_rules false h) ≡ false → passing (long_fault all_rules false (option_map rule o) number h) ≡ false
long-fails None number h fails = refl
long-fails (Some mode) None h fails = fails
long-fails (Some page) None h fails = fails
long-fails (Some workers) None h fails = fails
long-fails (Some seed) None h fails = fails
long-fails (Some mode) (Some number) h fails = or_else-fails (settle_fault all_rules false h) _ fails
long-fails (Some page) (Some number) h fails = or_else-fails (settle_fault all_rules false h) _ fails
long-fails (Some workers) (Some number) h fails = or_else-fails (settle_fault all_rules false h) _ fails
long-fails (Some seed) (Some number) h fails = or_else-fails (settle_fault all_rules false h) _ fails

-- nor an option
waits-long : (xs : List Row) (part : Part) (has : Bool) (byte : ℕ) (text : Text) (words : List Text) → found (option_walk xs part (place_of has) false) ((45 ∷ 45 ∷ byte ∷ text) ∷ words) ≡ None
waits-long xs part has byte text words =
    let name = before_first (λ one. one == 61) (byte ∷ text) in
    let number = number_behind (byte ∷ text) in
    let h = (option_walk xs part (place_of has) false).held in
    none-found (option_walk xs part (place_of has) false) (45 ∷ 45 ∷ byte ∷ text) words
    (or_else-fails (long_fault all_rules false (arg_by_long all_rules name) number h) _
    (ap (λ a. passing (long_fault all_rules false a number h)) (by_long name) ∙ long-fails (option_named name) number h (waits-fail xs part)))

waits-double : (xs : List Row) (part : Part) (has : Bool) (text : Text) (words : List Text) → found (option_walk xs part (place_of has) false) ((45 ∷ 45 ∷ text) ∷ words) ≡ None
unfolding walked
waits-double xs part has [] words = step (option_walk xs part (place_of has) false) (45 ∷ 45 ∷ []) words ∙ waits-ends xs part has words
waits-double xs part has (byte ∷ text) words = waits-long xs part has byte text words

waits-turn : (xs : List Row) (part : Part) (place : ℕ) (byte : ℕ) (text : Text) → (byte == 45) ≡ false → (x : ℕ) (cs : List ℕ) → chars (byte ∷ text) ≡ x ∷ cs
    → turn_fault shape [] (option_walk xs part place false) (45 ∷ byte ∷ text) ≡ kinds.UnknownArgument ∷ []
unfolding flags_fault
waits-turn xs part place byte text other x cs spelled =
    let short : short_of (45 ∷ byte ∷ text) ≡ Some (byte ∷ text) = rw other refl in
    rw other (rw short (rw spelled refl))

pub waits-hyphen : (xs : List Row) (part : Part) (has : Bool) (byte : ℕ) (text : Text) (words : List Text) → IsUtf8 (45 ∷ byte ∷ text)
    → found (option_walk xs part (place_of has) false) ((45 ∷ byte ∷ text) ∷ words) ≡ None
waits-hyphen xs part has byte text words spelled = go (byte == 45) refl
  where
    go : (b : Bool) → (byte == 45) ≡ b → found (option_walk xs part (place_of has) false) ((45 ∷ byte ∷ text) ∷ words) ≡ None
    go true is = at-hyphen (λ y. found (option_walk xs part (place_of has) false) ((45 ∷ y ∷ text) ∷ words) ≡ None) byte is (waits-double xs part has text words)
    go false is =
        let first = chars-behind byte text spelled in
        none-found (option_walk xs part (place_of has) false) (45 ∷ byte ∷ text) words (ap passing (waits-turn xs part (place_of has) byte text is first.0 first.1 first.2))

-- any other word is the number
number-held : (part : Part) (word : Text) (xs : List Row) (place : ℕ)
    → record (option_walk xs part place false) { held = (option_value (arg_by_id all_rules (name_of part)) (name_of part) word (option_walk xs part place false).held).0; waiting = (option_value (arg_by_id all_rules (name_of part)) (name_of part) word (option_walk xs part place false).held).1 }
    ≡ idle_walk xs (Some (name_of part, word ∷ [])) place false
number-held mode word xs place = refl
number-held page word xs place = refl
number-held workers word xs place = refl
number-held seed word xs place = refl

pub number-empty : (xs : List Row) (part : Part) (place : ℕ) (words : List Text) → found (option_walk xs part place false) ([] ∷ words) ≡ found (idle_walk xs (Some (name_of part, [] ∷ [])) place false) words
unfolding walked
number-empty xs part place words = step (option_walk xs part place false) [] words ∙ ap (λ w. found w words) (number-held part [] xs place)

pub number-hyphen : (xs : List Row) (part : Part) (place : ℕ) (words : List Text) → found (option_walk xs part place false) ((45 ∷ []) ∷ words) ≡ found (idle_walk xs (Some (name_of part, (45 ∷ []) ∷ [])) place false) words
unfolding walked
number-hyphen xs part place words = step (option_walk xs part place false) (45 ∷ []) words ∙ ap (λ w. found w words) (number-held part (45 ∷ []) xs place)

number-turn : (xs : List Row) (part : Part) (place : ℕ) (byte : ℕ) (text : Text) → (byte == 45) ≡ false → turn_fault shape [] (option_walk xs part place false) (byte ∷ text) ≡ []
number-turn xs part place byte text other =
    let short : short_of (byte ∷ text) ≡ None = rw other refl in
    rw other (rw short refl)

number-walked : (xs : List Row) (part : Part) (place : ℕ) (byte : ℕ) (text : Text) → (byte == 45) ≡ false
    → walked all_rules [] (option_walk xs part place false) (byte ∷ text)
    ≡ record (option_walk xs part place false) { held = (option_value (arg_by_id all_rules (name_of part)) (name_of part) (byte ∷ text) (option_walk xs part place false).held).0; waiting = (option_value (arg_by_id all_rules (name_of part)) (name_of part) (byte ∷ text) (option_walk xs part place false).held).1 }
unfolding walked
number-walked xs part place byte text other =
    let short : short_of (byte ∷ text) ≡ None = rw other refl in
    rw other (rw short refl)

pub number-plain : (xs : List Row) (part : Part) (place : ℕ) (byte : ℕ) (text : Text) (words : List Text) → (byte == 45) ≡ false
    → found (option_walk xs part place false) ((byte ∷ text) ∷ words) ≡ found (idle_walk xs (Some (name_of part, (byte ∷ text) ∷ [])) place false) words
number-plain xs part place byte text words other = step (option_walk xs part place false) (byte ∷ text) words
    ∙ ap₂ (λ k w. cond (passing k) (found w words) None) (number-turn xs part place byte text other) (number-walked xs part place byte text other ∙ number-held part (byte ∷ text) xs place)
