-- What `clap` makes of the words one after the other.
use Rattle.std.specs.Prelude.{◌≡◌, ◌==◌, ◌&&◌, ◌||◌, ℕ, Bool, true, false, List, [], ◌∷◌, Option, Some, None, option_map, encode_utf8_all}
use Rattle.std.specs.List.{fold}
use Rattle.std.specs.Str.{chars, IsUtf8}
use Rattle.std.specs.List.{before_first}
use Rattle.std.proofs.Common.{refl, ap, ap₂, sym, subst, cond, arith, ◌∙◌}
use Rattle.std.proofs.lemmas.Bool.{eqb-true}
use Rattle.std.proofs.lemmas.Str.{IsUtf8-drop, IsCharBoundary-after_ascii, encodes-chars}
use Rattle.clap.specs.Words.{Row, Rule, Text, fault_of, matches_of}
use Rattle.clap.specs.Kinds.{Kinds, or_else}
use Rattle.clap.specs.Lexer.{short_of}
use Rattle.clap.specs.Walk.{Held, Walk, idle, option, arg_by_long, arg_by_index, finished, nothing_held, rows_after, settled, to_positional, used, value, after_flag, after_step, long_met, is_pending, pushed, walk, walk_from, walked}
use Rattle.clap.specs.Faults.{built_fault, check_fault, defaults_fault, flags_fault, long_fault, settle_fault, step_fault, turn_fault, use_fault, walk_fault}
use Rattle.clap.specs.Simple.{names_of}
use Rattle.clap.specs.declared.error.kind.ErrorKind.TheVariants as kinds
use Rattle.clap.proofs.FaultLemmas.{leaf_fault}
use Rattle.hsnap.specs.CommandLine.{Part, mode, page, workers, seed, name_of, Form, ends, option as option_word, option_with, unknown, plain, form_of, option_form, hyphen_form, option_named, number_behind, with_number}
use Rattle.hsnap.specs.inside.ClapRows.{command_app}
use Rattle.hsnap.proofs.ClapRules.{all_rules, built_app, built_is, by_long, false-else, passing, passing-or_else, rule, shape}

-- ---- all words

abbrev pub end_fault : Held → Kinds
end_fault h = or_else (settle_fault all_rules false h)
    (or_else (defaults_fault (settled all_rules h).rows all_rules) (check_fault shape (finished all_rules h) false))

-- the walk over the words, and after it
abbrev pub total : Walk → List Text → Kinds
total w words = or_else (walk_fault shape [] w words) (end_fault (fold (walked all_rules []) w words).held)

-- what is found, where nothing fails
abbrev pub found : Walk → List Text → Option (List Row)
found w words = cond (passing (total w words)) (Some (finished all_rules (fold (walked all_rules []) w words).held)) None

pub fault-is : (words : List Text) → fault_of command_app words ≡ total (walk_from nothing_held) words
fault-is words = ap (λ a. built_fault a nothing_held words) built_is ∙ leaf_fault built_app nothing_held words refl

pub matches-are : (words : List Text) → matches_of command_app words ≡ finished all_rules (walk all_rules [] nothing_held words).held
matches-are words = ap (λ a. rows_after a.top.rules (names_of a) words) built_is

-- one word more
seq : {X : Type 0} (a b c : Kinds) (x : Option X) (y : X) → x ≡ cond (passing (or_else b c)) (Some y) None
    → cond (passing (or_else (or_else a b) c)) (Some y) None ≡ cond (passing a) x None
seq [] b c x y is = sym is
seq (kind ∷ kinds) b c x y is = refl

pub step : (w : Walk) (word : Text) (words : List Text) → found w (word ∷ words) ≡ cond (passing (turn_fault shape [] w word)) (found (walked all_rules [] w word) words) None
unfolding walk_fault
step w word words = seq (turn_fault shape [] w word) (walk_fault shape [] (walked all_rules [] w word) words)
    (end_fault (fold (walked all_rules []) (walked all_rules [] w word) words).held) _ _ refl

-- ---- characters

-- what follows a first hyphen of a text is a text, and one of characters
pub chars-behind : (byte : ℕ) (text : Text) → IsUtf8 (45 ∷ byte ∷ text) → (x : ℕ) × (xs : List ℕ) × (chars (byte ∷ text) ≡ x ∷ xs)
chars-behind byte text spelled =
    let rest : IsUtf8 (byte ∷ text) = IsUtf8-drop (45 ∷ byte ∷ text) 1 spelled (IsCharBoundary-after_ascii (45 ∷ byte ∷ text) 0 spelled (omega arith) (omega arith)) in
    go (chars (byte ∷ text)) refl (encodes-chars (byte ∷ text) rest)
  where
    go : (xs : List ℕ) → chars (byte ∷ text) ≡ xs → encode_utf8_all (chars (byte ∷ text)) ≡ byte ∷ text → (x : ℕ) × (rest : List ℕ) × (chars (byte ∷ text) ≡ x ∷ rest)
    go [] is all =
        let none : [] ≡ byte ∷ text = sym (ap encode_utf8_all is) ∙ all in
        absurd (cc)
    go (x ∷ xs) is all = (x, xs, is)

-- ---- a walk at which no option waits for its number

abbrev pub idle_walk : List Row → Option (Text × List Text) → ℕ → Bool → Walk
idle_walk xs pending place trailing = record { held = record { rows = xs; pending = pending; skip = 0 }; waiting = idle; position = place; is_trailing = trailing; stopped = None }

-- and at which one does
abbrev pub option_walk : List Row → Part → ℕ → Bool → Walk
option_walk xs part place trailing = record { held = record { rows = xs; pending = Some (name_of part, []); skip = 0 }; waiting = option (name_of part); position = place; is_trailing = trailing; stopped = None }

abbrev pub settles : List Row → Option (Text × List Text) → Bool
settles xs pending = passing (settle_fault all_rules false (record { rows = xs; pending = pending; skip = 0 }))

abbrev pub settled_as : List Row → Option (Text × List Text) → List Row
settled_as xs pending = (settled all_rules (record { rows = xs; pending = pending; skip = 0 })).rows

-- a word that is taken for the mode
abbrev pub value_found : List Row → Option (Text × List Text) → ℕ → Bool → Text → List Text → Option (List Row)
value_found xs pending place trailing word words =
    let h : Held = record { rows = xs; pending = pending; skip = 0 } in
    cond (passing (step_fault shape place h value)) (found (to_positional all_rules (arg_by_index all_rules place) word (idle_walk xs pending place trailing) h) words) None

abbrev pub form_found : Form → List Row → Option (Text × List Text) → ℕ → Text → List Text → Option (List Row)
form_found ends xs pending place word words = found (idle_walk xs pending place true) words
form_found (option_word part) xs pending place word words = cond (settles xs pending) (found (option_walk (settled_as xs pending) part place false) words) None
form_found (option_with part number) xs pending place word words =
    cond (settles xs pending && passing (use_fault false (rule part) (number ∷ []) (settled_as xs pending)))
    (found (idle_walk (used (rule part) (number ∷ []) (settled_as xs pending)) None place false) words) None
form_found unknown xs pending place word words = None
form_found plain xs pending place word words = value_found xs pending place false word words

pub trailing-found : (xs : List Row) (pending : Option (Text × List Text)) (place : ℕ) (word : Text) (words : List Text)
    → found (idle_walk xs pending place true) (word ∷ words) ≡ value_found xs pending place true word words
unfolding walked
trailing-found xs pending place word words = step (idle_walk xs pending place true) word words

ends-found : (xs : List Row) (pending : Option (Text × List Text)) (place : ℕ) (words : List Text)
    → found (idle_walk xs pending place false) ((45 ∷ 45 ∷ []) ∷ words) ≡ found (idle_walk xs pending place true) words
unfolding walked
ends-found xs pending place words = step (idle_walk xs pending place false) (45 ∷ 45 ∷ []) words

hyphen-found : (xs : List Row) (pending : Option (Text × List Text)) (place : ℕ) (words : List Text)
    → found (idle_walk xs pending place false) ((45 ∷ []) ∷ words) ≡ value_found xs pending place false (45 ∷ []) words
unfolding walked
hyphen-found xs pending place words = step (idle_walk xs pending place false) (45 ∷ []) words

empty-found : (xs : List Row) (pending : Option (Text × List Text)) (place : ℕ) (words : List Text)
    → found (idle_walk xs pending place false) ([] ∷ words) ≡ value_found xs pending place false [] words
unfolding walked
empty-found xs pending place words = step (idle_walk xs pending place false) [] words

plain-turn : (xs : List Row) (pending : Option (Text × List Text)) (place : ℕ) (byte : ℕ) (text : Text) → (byte == 45) ≡ false
    → turn_fault shape [] (idle_walk xs pending place false) (byte ∷ text) ≡ step_fault shape place (record { rows = xs; pending = pending; skip = 0 }) value
plain-turn xs pending place byte text other =
    let short : short_of (byte ∷ text) ≡ None = rw other refl in
    rw other (rw short refl)

plain-walked : (xs : List Row) (pending : Option (Text × List Text)) (place : ℕ) (byte : ℕ) (text : Text) → (byte == 45) ≡ false
    → walked all_rules [] (idle_walk xs pending place false) (byte ∷ text)
    ≡ to_positional all_rules (arg_by_index all_rules place) (byte ∷ text) (idle_walk xs pending place false) (record { rows = xs; pending = pending; skip = 0 })
unfolding walked
plain-walked xs pending place byte text other =
    let short : short_of (byte ∷ text) ≡ None = rw other refl in
    rw other (rw short refl)

plain-found : (xs : List Row) (pending : Option (Text × List Text)) (place : ℕ) (byte : ℕ) (text : Text) (words : List Text) → (byte == 45) ≡ false
    → found (idle_walk xs pending place false) ((byte ∷ text) ∷ words) ≡ value_found xs pending place false (byte ∷ text) words
plain-found xs pending place byte text words other = step (idle_walk xs pending place false) (byte ∷ text) words
    ∙ ap₂ (λ k w. cond (passing k) (found w words) None) (plain-turn xs pending place byte text other) (plain-walked xs pending place byte text other)

-- `-x` is no option
short-turn : (xs : List Row) (pending : Option (Text × List Text)) (place : ℕ) (byte : ℕ) (text : Text) → (byte == 45) ≡ false → (x : ℕ) (cs : List ℕ) → chars (byte ∷ text) ≡ x ∷ cs
    → turn_fault shape [] (idle_walk xs pending place false) (45 ∷ byte ∷ text) ≡ kinds.UnknownArgument ∷ []
unfolding flags_fault
short-turn xs pending place byte text other x cs spelled =
    let short : short_of (45 ∷ byte ∷ text) ≡ Some (byte ∷ text) = rw other refl in
    rw other (rw short (rw spelled refl))

short-found : (xs : List Row) (pending : Option (Text × List Text)) (place : ℕ) (byte : ℕ) (text : Text) (words : List Text) → (byte == 45) ≡ false → IsUtf8 (45 ∷ byte ∷ text)
    → found (idle_walk xs pending place false) ((45 ∷ byte ∷ text) ∷ words) ≡ None
short-found xs pending place byte text words other spelled =
    let first = chars-behind byte text spelled in
    step (idle_walk xs pending place false) (45 ∷ byte ∷ text) words
    ∙ ap (λ k. cond (passing k) (found (walked all_rules [] (idle_walk xs pending place false) (45 ∷ byte ∷ text)) words) None) (short-turn xs pending place byte text other first.0 first.1 first.2)

-- ---- a long option

abbrev long_turn : Option Rule → Option Text → Text → List Row → Option (Text × List Text) → ℕ → Kinds
long_turn a number word xs pending place =
    let h : Held = record { rows = xs; pending = pending; skip = 0 } in
    let met = after_flag all_rules idle word (long_met all_rules a number h).0 (long_met all_rules a number h).1 in
    or_else (long_fault all_rules false a number h) (step_fault shape place met.0 met.1)

abbrev long_walk : Option Rule → Option Text → Text → List Row → Option (Text × List Text) → ℕ → Walk
long_walk a number word xs pending place =
    let h : Held = record { rows = xs; pending = pending; skip = 0 } in
    let met = after_flag all_rules idle word (long_met all_rules a number h).0 (long_met all_rules a number h).1 in
    after_step all_rules word (idle_walk xs pending place false) met.0 met.1

long-found : (xs : List Row) (pending : Option (Text × List Text)) (place : ℕ) (byte : ℕ) (text : Text) (words : List Text)
    → found (idle_walk xs pending place false) ((45 ∷ 45 ∷ byte ∷ text) ∷ words)
    ≡ cond (passing (long_turn (arg_by_long all_rules (before_first (λ one. one == 61) (byte ∷ text))) (number_behind (byte ∷ text)) (45 ∷ 45 ∷ byte ∷ text) xs pending place))
    (found (long_walk (arg_by_long all_rules (before_first (λ one. one == 61) (byte ∷ text))) (number_behind (byte ∷ text)) (45 ∷ 45 ∷ byte ∷ text) xs pending place) words) None
unfolding walked
long-found xs pending place byte text words = step (idle_walk xs pending place false) (45 ∷ 45 ∷ byte ∷ text) words

and-true : (b : Bool) → (b && true) ≡ b
and-true true = refl
and-true false = refl

both_pass : (a b : Kinds) → passing (or_else (or_else a b) []) ≡ (passing a && passing b)
both_pass [] [] = refl
both_pass [] (kind ∷ kinds) = refl
both_pass (kind ∷ kinds) b = refl

-- by the option that the name is of
long-is : (o : Option Part) (number : Option Text) (xs : List Row) (pending : Option (Text × List Text)) (place : ℕ) (word : Text) (words : List Text)
    → cond (passing (long_turn (option_map rule o) number word xs pending place)) (found (long_walk (option_map rule o) number word xs pending place) words) None
    ≡ form_found (with_number o number) xs pending place word words
long-is None number xs pending place word words = refl
long-is (Some mode) None xs pending place word words = ap (λ c. cond c (found (option_walk (settled_as xs pending) mode place false) words) None) (passing-or_else (settle_fault all_rules false (record { rows = xs; pending = pending; skip = 0 })) [] ∙ and-true _)
long-is (Some page) None xs pending place word words = ap (λ c. cond c (found (option_walk (settled_as xs pending) page place false) words) None) (passing-or_else (settle_fault all_rules false (record { rows = xs; pending = pending; skip = 0 })) [] ∙ and-true _)
long-is (Some workers) None xs pending place word words = ap (λ c. cond c (found (option_walk (settled_as xs pending) workers place false) words) None) (passing-or_else (settle_fault all_rules false (record { rows = xs; pending = pending; skip = 0 })) [] ∙ and-true _)
long-is (Some seed) None xs pending place word words = ap (λ c. cond c (found (option_walk (settled_as xs pending) seed place false) words) None) (passing-or_else (settle_fault all_rules false (record { rows = xs; pending = pending; skip = 0 })) [] ∙ and-true _)
long-is (Some mode) (Some number) xs pending place word words = ap (λ c. cond c (found (idle_walk (used (rule mode) (number ∷ []) (settled_as xs pending)) None place false) words) None) (both_pass _ _)
long-is (Some page) (Some number) xs pending place word words = ap (λ c. cond c (found (idle_walk (used (rule page) (number ∷ []) (settled_as xs pending)) None place false) words) None) (both_pass _ _)
long-is (Some workers) (Some number) xs pending place word words = ap (λ c. cond c (found (idle_walk (used (rule workers) (number ∷ []) (settled_as xs pending)) None place false) words) None) (both_pass _ _)
long-is (Some seed) (Some number) xs pending place word words = ap (λ c. cond c (found (idle_walk (used (rule seed) (number ∷ []) (settled_as xs pending)) None place false) words) None) (both_pass _ _)

-- ---- one word, by its form

pub at-hyphen : (P : ℕ → Type 0) (byte : ℕ) → (byte == 45) ≡ true → P 45 → P byte
at-hyphen P byte is given = subst P (sym (eqb-true byte 45 is)) given

option-found : (xs : List Row) (pending : Option (Text × List Text)) (place : ℕ) (text : Text) (words : List Text)
    → found (idle_walk xs pending place false) ((45 ∷ 45 ∷ text) ∷ words) ≡ form_found (option_form text) xs pending place (45 ∷ 45 ∷ text) words
option-found xs pending place [] words = ends-found xs pending place words
option-found xs pending place (byte ∷ text) words =
    let name = before_first (λ one. one == 61) (byte ∷ text) in
    long-found xs pending place byte text words
    ∙ (ap (λ a. cond (passing (long_turn a (number_behind (byte ∷ text)) (45 ∷ 45 ∷ byte ∷ text) xs pending place)) (found (long_walk a (number_behind (byte ∷ text)) (45 ∷ 45 ∷ byte ∷ text) xs pending place) words) None) (by_long name)
    ∙ long-is (option_named name) (number_behind (byte ∷ text)) xs pending place (45 ∷ 45 ∷ byte ∷ text) words)

behind-hyphen : (xs : List Row) (pending : Option (Text × List Text)) (place : ℕ) (text : Text) (words : List Text) → IsUtf8 (45 ∷ text)
    → found (idle_walk xs pending place false) ((45 ∷ text) ∷ words) ≡ form_found (hyphen_form text) xs pending place (45 ∷ text) words
behind-hyphen xs pending place [] words spelled = hyphen-found xs pending place words
behind-hyphen xs pending place (byte ∷ text) words spelled = go (byte == 45) refl
  where
    go : (b : Bool) → (byte == 45) ≡ b
        → found (idle_walk xs pending place false) ((45 ∷ byte ∷ text) ∷ words) ≡ form_found (cond b (option_form text) unknown) xs pending place (45 ∷ byte ∷ text) words
    go true is = at-hyphen (λ y. found (idle_walk xs pending place false) ((45 ∷ y ∷ text) ∷ words) ≡ form_found (option_form text) xs pending place (45 ∷ y ∷ text) words)
        byte is (option-found xs pending place text words)
    go false is = short-found xs pending place byte text words is spelled

pub word-found : (xs : List Row) (pending : Option (Text × List Text)) (place : ℕ) (word : Text) (words : List Text) → IsUtf8 word
    → found (idle_walk xs pending place false) (word ∷ words) ≡ form_found (form_of word) xs pending place word words
word-found xs pending place [] words spelled = empty-found xs pending place words
word-found xs pending place (byte ∷ text) words spelled = go (byte == 45) refl
  where
    go : (b : Bool) → (byte == 45) ≡ b
        → found (idle_walk xs pending place false) ((byte ∷ text) ∷ words) ≡ form_found (cond b (hyphen_form text) plain) xs pending place (byte ∷ text) words
    go true is = at-hyphen (λ y. IsUtf8 (y ∷ text) → found (idle_walk xs pending place false) ((y ∷ text) ∷ words) ≡ form_found (hyphen_form text) xs pending place (y ∷ text) words)
        byte is (behind-hyphen xs pending place text words) spelled
    go false is = plain-found xs pending place byte text words is

-- ---- a word that is taken for the mode

and-false : (b : Bool) → (b && false) ≡ false
and-false true = refl
and-false false = refl

abbrev value_walk : List Row → Option (Text × List Text) → Text → Bool → Bool → Walk
value_walk xs pending word same trailing =
    let h : Held = record { rows = xs; pending = pending; skip = 0 } in
    record { held = pushed (name_of mode) word (cond same h (settled all_rules h)); waiting = idle; position = 2; is_trailing = trailing; stopped = None }

-- the first
pub first-value : (xs : List Row) (pending : Option (Text × List Text)) (trailing : Bool) (word : Text) (words : List Text)
    → value_found xs pending 1 trailing word words ≡ cond (settles xs pending) (found (idle_walk (settled_as xs pending) (Some (name_of mode, word ∷ [])) 2 trailing) words) None
first-value xs pending trailing word words =
    ap (λ b. cond (passing (cond b [] (settle_fault all_rules false (record { rows = xs; pending = pending; skip = 0 })))) (found (value_walk xs pending word b (trailing || false)) words) None) (and-false (is_pending (rule mode) pending))
    ∙ ap (λ t. cond (settles xs pending) (found (idle_walk (settled_as xs pending) (Some (name_of mode, word ∷ [])) 2 t) words) None) (false-else trailing)

-- no other
pub other-value : (xs : List Row) (pending : Option (Text × List Text)) (trailing : Bool) (word : Text) (words : List Text) → value_found xs pending 2 trailing word words ≡ None
other-value xs pending trailing word words = refl
