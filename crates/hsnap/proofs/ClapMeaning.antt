-- What the words mean, by what `clap` answers.
use Rattle.std.specs.Prelude.{◌≡◌, ◌&&◌, ◌||◌, ◌++◌, Bool, true, false, not, List, [], ◌∷◌, Option, Some, None, Result, Err, IfOk, option_and_then, option_map}
use Rattle.std.specs.List.{All, find}
use Rattle.std.specs.Option.{ok_or}
use Rattle.std.specs.Str.{IsUtf8}
use Rattle.std.proofs.Common.{refl, ap, ap₂, sym, subst, cond, true≢false, inl, inr, ◌∙◌}
use Rattle.std.proofs.lemmas.Bool.{and_from}
use Rattle.std.proofs.lemmas.List.Folds.{list_all-append}
use Rattle.clap.specs.Words.{App, Row, Text, fault_of, is_simple, is_simple_and_free, matches_of}
use Rattle.clap.specs.Kinds.{Kinds, HasKind}
use Rattle.clap.specs.Values.{kind_of}
use Rattle.clap.specs.declared.error.Error.{Error}
use Rattle.clap.specs.declared.error.kind.ErrorKind.TheVariants as kinds
use Rattle.clap.specs.Walk.{finished, nothing_held, walk, walk_from}
use Rattle.hsnap.specs.CommandLine.{Part, mode, Given, Form, ends, option as option_word, option_with, unknown, plain, form_of, has_name, is_given, is_right, text_of, begins_with_hyphen, meaning_of_parts, meaning_of_words, mode_of, words_in}
use Rattle.hsnap.specs.CommandLine.{Place, any_word, number_of, mode_only, Read, then_at, word_read, number_read, next_read, parts_from, parts_of}
use Rattle.hsnap.specs.declared.command_line.Words.{Words}
use Rattle.hsnap.specs.inside.ClapRows.{are_right, command_app, rows}
use Rattle.hsnap.proofs.ClapRules.{all_rules, free, passing, simple}
use Rattle.hsnap.proofs.ClapTurns.{fault-is, found, matches-are, total}
use Rattle.hsnap.proofs.ClapWords.{finish, reads}

-- ---- every text that is given is right

abbrev AreRight : Read → Type 0
AreRight None = Unit {0}
AreRight (Some read) = are_right read.1 ≡ true

right-then : (place : Place) (part : Part) (text : Text) (given : List Given) → are_right given ≡ true → AreRight (then_at place part text given)
right-then place part text given right = go (is_given part given) (is_right part text) refl
  where
    go : (b c : Bool) → is_right part text ≡ c → AreRight (option_map (λ more. (place, more)) (cond (not b && c) (Some (given ++ (part, text) ∷ [])) None))
    go true c is = tt
    go false true is = list_all-append (λ (one : Given). is_right one.0 one.1) given ((part, text) ∷ []) ∙ and_from (are_right given) (is_right part text && true) right (and_from (is_right part text) true is refl)
    go false false is = tt

right-word : (form : Form) (word : Text) (given : List Given) → are_right given ≡ true → AreRight (word_read form word given)
right-word ends word given right = right
right-word (option_word part) word given right = right
right-word (option_with part number) word given right = right-then any_word part number given right
right-word unknown word given right = tt
right-word plain word given right = right-then any_word mode word given right

right-number : (part : Part) (word : Text) (given : List Given) → are_right given ≡ true → AreRight (number_read part word given)
right-number part word given right = go (begins_with_hyphen word)
  where
    go : (b : Bool) → AreRight (cond b None (then_at any_word part word given))
    go true = tt
    go false = right-then any_word part word given right

right-next : (place : Place) (word : Text) (given : List Given) → are_right given ≡ true → AreRight (next_read place word given)
right-next any_word word given right = right-word (form_of word) word given right
right-next (number_of part) word given right = right-number part word given right
right-next mode_only word given right = right-then mode_only mode word given right

right-parts : (words : List Text) (place : Place) (given all : List Given) → are_right given ≡ true → parts_from place words given ≡ Some all → are_right all ≡ true
unfolding parts_from
right-parts [] any_word given all right is =
    let same : given ≡ all = cc in
    subst (λ g. are_right g ≡ true) same right
right-parts [] (number_of part) given all right is = absurd (cc)
right-parts [] mode_only given all right is =
    let same : given ≡ all = cc in
    subst (λ g. are_right g ≡ true) same right
right-parts (word ∷ words) place given all right is = go (next_read place word given) (right-next place word given right) (λ next more ok. right-parts words next more all ok) is
  where
    go : (read : Read) → AreRight read → ((next : Place) (more : List Given) → are_right more ≡ true → parts_from next words more ≡ Some all → are_right all ≡ true)
        → option_and_then (λ (r : Place × List Given). parts_from r.0 words r.1) read ≡ Some all → are_right all ≡ true
    go None ok next found = absurd (cc)
    go (Some r) ok next found = next r.0 r.1 ok found

-- ---- a mode that is not given

none-given : (given : List Given) → is_given mode given ≡ false → text_of mode given ≡ None
none-given [] none = refl
none-given (one ∷ given) none = go (has_name mode one) none (none-given given)
  where
    go : (b : Bool) → (b || is_given mode given) ≡ false → (is_given mode given ≡ false → text_of mode given ≡ None) → option_map (λ (x : Given). x.1) (cond b (Some one) (find (has_name mode) given)) ≡ None
    go true none next = absurd (true≢false none)
    go false none next = next none

-- ---- what `clap` answers

abbrev pub Answer : List Text → List Given → Type 0
Answer words given = (parts_of words ≡ Some given) × (matches_of command_app words ≡ rows given) × (are_right given ≡ true)

all-found : (words : List Text) → All IsUtf8 words → found (walk_from nothing_held) words ≡ finish (parts_of words)
all-found words texts = reads words texts any_word [] refl

-- where nothing fails, the rows are those of the parts
pub taken : (words : List Text) → All IsUtf8 words → fault_of command_app words ≡ [] → (given : List Given) × Answer words given
taken words texts none = go (parts_of words) refl (sym matches ∙ all-found words texts)
  where
    matches : found (walk_from nothing_held) words ≡ Some (matches_of command_app words)
    matches = ap₂ (λ k xs. cond (passing k) (Some xs) None) (sym (fault-is words) ∙ none) (sym (matches-are words))

    with-mode : (given : List Given) (b : Bool) → parts_of words ≡ Some given → Some (matches_of command_app words) ≡ cond b (Some (rows given)) None → (more : List Given) × Answer words more
    with-mode given true is same =
        let one : matches_of command_app words ≡ rows given = cc in
        (given, (is, one, right-parts words any_word [] given refl is))
    with-mode given false is same = absurd (cc)

    go : (parts : Option (List Given)) → parts_of words ≡ parts → Some (matches_of command_app words) ≡ finish parts → (given : List Given) × Answer words given
    go None is same = absurd (cc)
    go (Some given) is same = with-mode given (is_given mode given) is same

-- and where something does, the words mean nothing
pub refused : (words : List Text) → All IsUtf8 words → (fault_of command_app words ≡ [] → ⊥) → meaning_of_words words ≡ None
refused words texts fails = go (parts_of words) (sym (all-found words texts) ∙ not-found (fault_of command_app words) (sym (fault-is words)) fails)
  where
    not-found : (k : Kinds) → total (walk_from nothing_held) words ≡ k → (k ≡ [] → ⊥) → found (walk_from nothing_held) words ≡ None
    not-found [] is fails = absurd (fails refl)
    not-found (kind ∷ more) is fails = ap (λ t. cond (passing t) (Some (finished all_rules (walk all_rules [] nothing_held words).held)) None) is

    no-mode : (given : List Given) (b : Bool) → is_given mode given ≡ b → cond b (Some (rows given)) None ≡ None → meaning_of_parts given ≡ None
    no-mode given true is none = absurd (cc)
    no-mode given false is none = ap (λ o. option_map (words_in given) (option_and_then mode_of o)) (none-given given is)

    go : (parts : Option (List Given)) → finish parts ≡ None → option_and_then meaning_of_parts parts ≡ None
    go None none = refl
    go (Some given) none = no-mode given (is_given mode given) refl none

-- ---- for a command and words that are known to be these

pub read-taken : (words said : List Text) (a : App) (xs : List Row) (read : Option Words) → a ≡ command_app → said ≡ words → All IsUtf8 words
    → (is_simple_and_free a ≡ true → fault_of a said ≡ []) → (is_simple a ≡ true → xs ≡ matches_of a said)
    → ((given : List Given) → are_right given ≡ true → xs ≡ rows given → read ≡ meaning_of_parts given) → read ≡ meaning_of_words words
read-taken words said a xs read app same texts kinds matches meaning =
    let none : fault_of command_app words ≡ [] = sym (ap₂ fault_of app same) ∙ kinds (ap is_simple_and_free app ∙ free) in
    let found : xs ≡ matches_of command_app words = matches (ap is_simple app ∙ simple) ∙ ap₂ matches_of app same in
    let got = taken words texts none in
    meaning got.0 got.1.2 (found ∙ got.1.1) ∙ sym (ap (λ parts. option_and_then meaning_of_parts parts) got.1.0)

pub read-refused : (words said : List Text) (a : App) (error : Error) → a ≡ command_app → said ≡ words → All IsUtf8 words
    → (is_simple_and_free a ≡ true → HasKind (fault_of a said) error) → (kind_of error ≡ kinds.OutOfMemory → ⊥) → meaning_of_words words ≡ None
read-refused words said a error app same texts kind other = refused words texts
    (λ none. go (fault_of a said) (ap₂ fault_of app same ∙ none) (kind (ap is_simple_and_free app ∙ free)))
  where
    go : (k : Kinds) → k ≡ [] → HasKind k error → ⊥
    go [] is (inl memory) = other memory
    go [] is (inr among) = among
    go (x ∷ k) is among = absurd (cc)

-- and what is made of them
pub ok-means : {W F : Type 0} (read : Option W) (fault : F) (meaning : Option W) (r : Result W F) → r ≡ ok_or read fault → read ≡ meaning → IfOk r (λ w. meaning ≡ Some w)
ok-means {W = W} {F = F} (Some w) fault meaning r is same = subst (λ (x : Result W F). IfOk x (λ y. meaning ≡ Some y)) (sym is) (sym same)
ok-means {W = W} {F = F} None fault meaning r is same = subst (λ (x : Result W F). IfOk x (λ y. meaning ≡ Some y)) (sym is) tt

pub err-means : {W F : Type 0} (read : Option W) (fault other : F) (meaning : Option W) (r : Result W F) → r ≡ ok_or read fault → read ≡ meaning → r ≡ Err other → meaning ≡ None
err-means (Some w) fault other meaning r is same err = absurd (cc)
err-means None fault other meaning r is same err = sym same
