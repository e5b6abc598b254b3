-- A word that is no UTF-8 is no word of the language.
use Rattle.std.proofs.Common.{◌≡◌, ℕ, ◌<◌, nat_lt, Bool, true, false, cond, ◌&&◌, bytes_eq, codes, Ok, Err, Some, None, List, [], ◌∷◌, get_or, zero, suc, refl, ap, ◌∙◌, subst, sym, arith}
use Rattle.std.specs.List.{list_all}
use Rattle.std.specs.Map.{lookup}
use Rattle.std.specs.Str.{IsUtf8}
use Rattle.std.proofs.lemmas.Str.{IsUtf8-from_ascii}
use Rattle.std.proofs.lemmas.Slice.Eq.{bytes_eq-Decides}
use Rattle.std.proofs.lemmas.Bool.Decides.{nat_tests}
use Rattle.script_text.specs.declared.command_word.CommandWord.{CommandWord}
use Rattle.script_text.specs.declared.fault.FaultKind.TheVariants as kinds
use Rattle.script_text.specs.declared.line.LineMeaning.TheVariants.{Skipped}
use Rattle.script_text.specs.declared.script.Standing.{Standing}
use Rattle.script_text.specs.Commands.{command_words, word_of, command_of}
use Rattle.script_text.specs.Headings.{is_heading, after_heading}
use Rattle.script_text.specs.Scripts.{line_of, full_line, heading_line, command_line}
use Rattle.script_text.specs.Words.{is_comment}

both_first : (a b : Bool) → (a && b) ≡ true → a ≡ true
both_first true b e = refl
both_first false b e = e

both_second : (a b : Bool) → (a && b) ≡ true → b ≡ true
both_second true b e = e
both_second false b e = absurd (cc)

abbrev is_ascii : List ℕ → Bool
is_ascii bs = list_all (λ b. nat_lt b 128) bs

ascii_at : (bs : List ℕ) → is_ascii bs ≡ true → (i : ℕ) → get_or bs i 0 < 128
ascii_at [] all i = omega arith
ascii_at (b ∷ bs) all zero = let first : nat_lt b 128 ≡ true = both_first (nat_lt b 128) _ all in grind (arith, nat_tests)
ascii_at (b ∷ bs) all (suc i) = ascii_at bs (both_second (nat_lt b 128) _ all) i

other : (word ascii : List ℕ) → is_ascii ascii ≡ true → (IsUtf8 word → ⊥) → bytes_eq word ascii ≡ false
other word ascii is never = elim (bytes_eq word ascii) as (λ b. bytes_eq word ascii ≡ b → b ≡ false) [
  | true ↦ λ e. absurd (never (subst IsUtf8 (sym ((bytes_eq-Decides word ascii).0 e)) (IsUtf8-from_ascii ascii (ascii_at ascii is))))
  | false ↦ λ e. refl
] refl

no_entry : (word : List ℕ) (entries : List (List ℕ × CommandWord)) → list_all (λ e. is_ascii e.0) entries ≡ true → (IsUtf8 word → ⊥) → lookup (bytes_eq word) entries ≡ None
no_entry word [] all never = refl
no_entry word (entry ∷ entries) all never =
    ap (λ b. cond b (Some entry.1) (lookup (bytes_eq word) entries)) (other word entry.0 (both_first (is_ascii entry.0) _ all) never)
    ∙ no_entry word entries (both_second (is_ascii entry.0) _ all) never

pub no_word : (word : List ℕ) → (IsUtf8 word → ⊥) → word_of word ≡ None
no_word word never = no_entry word command_words refl never

no_command : (first : List ℕ) (rest : List (List ℕ)) → (IsUtf8 first → ⊥) → command_line (command_of (first ∷ rest)) ≡ Err kinds.Command
no_command first rest never =
    let source : bytes_eq first (codes "s") ≡ false = other first (codes "s") refl never in
    let target : bytes_eq first (codes "t") ≡ false = other first (codes "t") refl never in
    let sync : bytes_eq first (codes "sync") ≡ false = other first (codes "sync") refl never in
    rw (source, target, sync) refl

no_heading : (first : List ℕ) → (IsUtf8 first → ⊥) → is_heading first ≡ false
no_heading first never =
    let setup : bytes_eq first (codes "setup") ≡ false = other first (codes "setup") refl never in
    let client : bytes_eq first (codes "client") ≡ false = other first (codes "client") refl never in
    let finish : bytes_eq first (codes "finish") ≡ false = other first (codes "finish") refl never in
    rw (setup, client, finish) refl

no_full_line : (standing : Standing) (first : List ℕ) (rest : List (List ℕ)) → (IsUtf8 first → ⊥) → full_line standing first rest ≡ Err kinds.Command
no_full_line standing first rest never =
    ap (λ b. cond b (heading_line (after_heading standing first rest)) (command_line (command_of (first ∷ rest)))) (no_heading first never)
    ∙ no_command first rest never

pub no_line : (standing : Standing) (first : List ℕ) (rest : List (List ℕ)) → is_comment first ≡ false → (IsUtf8 first → ⊥) → line_of standing (first ∷ rest) ≡ Err kinds.Command
no_line standing first rest comment never =
    ap (λ b. cond b (Ok Skipped) (full_line standing first rest)) comment ∙ no_full_line standing first rest never
