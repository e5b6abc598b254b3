-- The command that `clap` reads the words by, and what it makes of one part.
use Rattle.std.specs.Prelude.{◌≡◌, ◌&&◌, ◌||◌, Bool, true, false, not, List, [], ◌∷◌, ◌++◌, Some, None, option_map, codes, bytes_eq}
use Rattle.std.specs.List.{find, fold}
use Rattle.std.proofs.Common.{refl, ap, ap₂, sym, cond, true≢false, append-nil, ◌∙◌}
use Rattle.std.proofs.lemmas.List.{map-append}
use Rattle.clap.specs.Words.{App, Row, Rule, Text, is_simple, is_simple_and_free, built}
use Rattle.clap.specs.Kinds.{Kinds, or_else}
use Rattle.clap.specs.Simple.{Shape}
use Rattle.clap.specs.Walk.{Held, arg_by_id, arg_by_long, at_row, has_row, more_values, finished, settled, used, with_default}
use Rattle.clap.specs.Faults.{use_fault, defaults_fault}
use Rattle.clap.specs.declared.builder.action.ArgAction.TheVariants.{Set}
use Rattle.clap.specs.declared.builder.value_parser.ValueParser.TheVariants as parsers
use Rattle.clap.specs.declared.parser.matches.ValueSource.TheVariants as sources
use Rattle.clap.specs.declared.error.kind.ErrorKind.{ErrorKind}
use Rattle.clap.specs.declared.error.kind.ErrorKind.TheVariants as kinds
use Rattle.clap.proofs.OnLiterals.{clap_on_literals}
use Rattle.hsnap.specs.inside.ClapRows.{mode_rule, option_rule, plain_app, command_app, row, rows}
use Rattle.hsnap.specs.CommandLine.{Part, mode, page, workers, seed, name_of, Given, has_name, is_given, is_right, option_named}

-- ---- the command, as it is built

abbrev pub rule : Part → Rule
rule mode = record mode_rule { action = Some Set; parser = Some parsers.String; range = Some (record { start_inclusive = 1; end_inclusive = 1 }); index = Some 1 }
rule page = record (option_rule page) { action = Some Set; range = Some (record { start_inclusive = 1; end_inclusive = 1 }) }
rule workers = record (option_rule workers) { action = Some Set; range = Some (record { start_inclusive = 1; end_inclusive = 1 }) }
rule seed = record (option_rule seed) { action = Some Set; range = Some (record { start_inclusive = 1; end_inclusive = 1 }) }

abbrev pub all_rules : List Rule
all_rules = rule mode ∷ rule page ∷ rule workers ∷ rule seed ∷ []

abbrev pub shape : Shape
shape = record plain_app.top { rules = all_rules; disable_help_subcommand = true; is_built = true }

abbrev pub built_app : App
built_app = record { top = shape; subs = [] }

pub built_is : built command_app ≡ built_app
unfolding clap_on_literals
built_is = refl

pub free : is_simple_and_free command_app ≡ true
unfolding clap_on_literals
free = refl

-- ---- tests

abbrev pub passing : Kinds → Bool
passing [] = true
passing (kind ∷ kinds) = false

pub passing-or_else : (a b : Kinds) → passing (or_else a b) ≡ (passing a && passing b)
passing-or_else [] b = refl
passing-or_else (kind ∷ kinds) b = refl

pub false-else : (b : Bool) → (b || false) ≡ b
false-else true = refl
false-else false = refl

-- a list of at most one kind
none-passing : (b : Bool) (kind : ErrorKind) → passing (cond b [] (kind ∷ [])) ≡ b
none-passing true kind = refl
none-passing false kind = refl

one-passing : (b : Bool) (kind : ErrorKind) → passing (cond (b && true) (kind ∷ []) []) ≡ not b
one-passing true kind = refl
one-passing false kind = refl

none-more : (b : Bool) (kind : ErrorKind) → passing (or_else (cond b [] (kind ∷ [])) []) ≡ b
none-more true kind = refl
none-more false kind = refl

-- ---- arguments by their names

pub by_id : (part : Part) → arg_by_id all_rules (name_of part) ≡ Some (rule part)
by_id mode = refl
by_id page = refl
by_id workers = refl
by_id seed = refl

named_by : (a b c : Bool) → cond (a || false) (Some (rule page)) (cond (b || false) (Some (rule workers)) (cond (c || false) (Some (rule seed)) None))
    ≡ option_map rule (cond a (Some page) (cond b (Some workers) (cond c (Some seed) None)))
named_by true b c = refl
named_by false true c = refl
named_by false false true = refl
named_by false false false = refl

pub by_long : (name : Text) → arg_by_long all_rules name ≡ option_map rule (option_named name)
by_long name = named_by (bytes_eq (codes "page") name) (bytes_eq (codes "workers") name) (bytes_eq (codes "seed") name)

-- ---- rows

pub has-rows : (part : Part) (given : List Given) → has_row (name_of part) (rows given) ≡ is_given part given
has-rows part [] = refl
has-rows part (one ∷ given) = ap (λ b. has_name part one || b) (has-rows part given)

pub find-rows : (part : Part) (given : List Given) → find (λ (r : Row). bytes_eq r.id (name_of part)) (rows given) ≡ option_map row (find (has_name part) given)
find-rows part [] = refl
find-rows part (one ∷ given) = go (has_name part one) (find-rows part given)
  where
    go : (b : Bool) → find (λ (r : Row). bytes_eq r.id (name_of part)) (rows given) ≡ option_map row (find (has_name part) given)
        → cond b (Some (row one)) (find (λ (r : Row). bytes_eq r.id (name_of part)) (rows given)) ≡ option_map row (cond b (Some one) (find (has_name part) given))
    go true next = refl
    go false next = next

-- an id that has no row gets one at the end
at-end : (id : Text) (change : Row → List Row) (missing xs : List Row) → has_row id xs ≡ false → at_row id change missing xs ≡ xs ++ missing
at-end id change missing [] none = refl
at-end id change missing (x ∷ xs) none = go (bytes_eq x.id id) none (at-end id change missing xs)
  where
    go : (b : Bool) → (b || has_row id xs) ≡ false → (has_row id xs ≡ false → at_row id change missing xs ≡ xs ++ missing)
        → cond b (change x ++ xs) (x ∷ at_row id change missing xs) ≡ x ∷ (xs ++ missing)
    go true none next = absurd (true≢false none)
    go false none next = ap (λ rest. x ∷ rest) (next none)

-- ---- a part that is given

-- `clap` lets the part pass where it wasn't given, and the text is right
pub use-passes : (part : Part) (text : Text) (given : List Given) → passing (use_fault false (rule part) (text ∷ []) (rows given)) ≡ (not (is_given part given) && is_right part text)
use-passes mode text given = passing-or_else (cond (has_row (name_of mode) (rows given) && true) (kinds.ArgumentConflict ∷ []) []) [] ∙ ap₂ (λ a b. a && b) (one-passing (has_row (name_of mode) (rows given)) kinds.ArgumentConflict ∙ ap not (has-rows mode given)) refl
use-passes page text given = passing-or_else (cond (has_row (name_of page) (rows given) && true) (kinds.ArgumentConflict ∷ []) []) _ ∙ ap₂ (λ a b. a && b) (one-passing (has_row (name_of page) (rows given)) kinds.ArgumentConflict ∙ ap not (has-rows page given)) (none-more (is_right page text) kinds.ValueValidation)
use-passes workers text given = passing-or_else (cond (has_row (name_of workers) (rows given) && true) (kinds.ArgumentConflict ∷ []) []) _ ∙ ap₂ (λ a b. a && b) (one-passing (has_row (name_of workers) (rows given)) kinds.ArgumentConflict ∙ ap not (has-rows workers given)) (none-more (is_right workers text) kinds.ValueValidation)
use-passes seed text given = passing-or_else (cond (has_row (name_of seed) (rows given) && true) (kinds.ArgumentConflict ∷ []) []) _ ∙ ap₂ (λ a b. a && b) (one-passing (has_row (name_of seed) (rows given)) kinds.ArgumentConflict ∙ ap not (has-rows seed given)) (none-more (is_right seed text) kinds.ValueValidation)

-- an option needs its number
pub use-none : (part : Part) (xs : List Row) → passing (use_fault false (rule part) [] xs) ≡ false
use-none mode xs = refl
use-none page xs = refl
use-none workers xs = refl
use-none seed xs = refl

add-row : (part : Part) (text : Text) (given : List Given) → is_given part given ≡ false
    → at_row (name_of part) (more_values sources.CommandLine (text ∷ [])) (row (part, text) ∷ []) (at_row (name_of part) (λ _. []) [] (rows given)) ≡ rows given ++ row (part, text) ∷ []
add-row part text given fresh =
    let none = has-rows part given ∙ fresh in
    ap (λ xs. at_row (name_of part) (more_values sources.CommandLine (text ∷ [])) (row (part, text) ∷ []) xs) (at-end (name_of part) (λ _. []) [] (rows given) none ∙ append-nil (rows given))
    ∙ at-end (name_of part) (more_values sources.CommandLine (text ∷ [])) (row (part, text) ∷ []) (rows given) none

-- its row stands at the end
pub use-rows : (part : Part) (text : Text) (given : List Given) → is_given part given ≡ false → used (rule part) (text ∷ []) (rows given) ≡ rows (given ++ (part, text) ∷ [])
use-rows mode text given fresh = add-row mode text given fresh ∙ sym (map-append row given ((mode, text) ∷ []))
use-rows page text given fresh = add-row page text given fresh ∙ sym (map-append row given ((page, text) ∷ []))
use-rows workers text given fresh = add-row workers text given fresh ∙ sym (map-append row given ((workers, text) ∷ []))
use-rows seed text given fresh = add-row seed text given fresh ∙ sym (map-append row given ((seed, text) ∷ []))

-- ---- no argument has a default

kept : (b : Bool) (xs : List Row) → cond b xs xs ≡ xs
kept true xs = refl
kept false xs = refl

pub finished-is : (h : Held) → finished all_rules h ≡ (settled all_rules h).rows
finished-is h =
    let xs = (settled all_rules h).rows in
    let one : (part : Part) (ys : List Row) → with_default ys (rule part) ≡ ys = λ part ys. each part ys in
    ap (λ ys. fold with_default ys (rule page ∷ rule workers ∷ rule seed ∷ [])) (one mode xs)
    ∙ (ap (λ ys. fold with_default ys (rule workers ∷ rule seed ∷ [])) (one page xs)
    ∙ (ap (λ ys. fold with_default ys (rule seed ∷ [])) (one workers xs) ∙ one seed xs))
  where
    each : (part : Part) (ys : List Row) → with_default ys (rule part) ≡ ys
    each mode ys = kept (has_row (name_of mode) ys) ys
    each page ys = kept (has_row (name_of page) ys) ys
    each workers ys = kept (has_row (name_of workers) ys) ys
    each seed ys = kept (has_row (name_of seed) ys) ys

no-fault : (b : Bool) (kind : Kinds) → cond (b || true) [] kind ≡ []
no-fault true kind = refl
no-fault false kind = refl

pub defaults-pass : (xs : List Row) → defaults_fault xs all_rules ≡ []
unfolding defaults_fault
defaults-pass xs =
    ap (λ k. or_else k (defaults_fault (with_default xs (rule mode)) (rule page ∷ rule workers ∷ rule seed ∷ []))) (no-fault (has_row (name_of mode) xs) _) ∙ page-on (with_default xs (rule mode))
  where
    seed-on : (ys : List Row) → defaults_fault ys (rule seed ∷ []) ≡ []
    seed-on ys = ap (λ k. or_else k []) (no-fault (has_row (name_of seed) ys) _)

    workers-on : (ys : List Row) → defaults_fault ys (rule workers ∷ rule seed ∷ []) ≡ []
    workers-on ys = ap (λ k. or_else k (defaults_fault (with_default ys (rule workers)) (rule seed ∷ []))) (no-fault (has_row (name_of workers) ys) _) ∙ seed-on (with_default ys (rule workers))

    page-on : (ys : List Row) → defaults_fault ys (rule page ∷ rule workers ∷ rule seed ∷ []) ≡ []
    page-on ys = ap (λ k. or_else k (defaults_fault (with_default ys (rule page)) (rule workers ∷ rule seed ∷ []))) (no-fault (has_row (name_of page) ys) _) ∙ workers-on (with_default ys (rule page))

pub simple : is_simple command_app ≡ true
unfolding clap_on_literals
simple = refl
