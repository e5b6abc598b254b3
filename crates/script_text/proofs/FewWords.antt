-- The first six words of a line tell what it means.
use Rattle.std.proofs.Common.{◌≡◌, ℕ, cond, bytes_eq, codes, Option, Some, None, Result, Ok, Err, List, [], ◌∷◌, take, refl, ap, ◌∙◌}
use Rattle.hs_types.specs.declared.ids.Side.{Side}
use Rattle.hs_types.specs.declared.ids.Side.TheVariants.{Source, Target}
use Rattle.script_text.specs.declared.command.Command.{Command}
use Rattle.script_text.specs.declared.command_word.CommandWord.{CommandWord}
use Rattle.script_text.specs.declared.fault.FaultKind.{FaultKind}
use Rattle.script_text.specs.declared.fault.FaultKind.TheVariants as kinds
use Rattle.script_text.specs.declared.line.LineMeaning.{LineMeaning}
use Rattle.script_text.specs.declared.line.LineMeaning.TheVariants.{Skipped}
use Rattle.script_text.specs.declared.script.Standing.{Standing}
use Rattle.script_text.specs.Commands.{known_command, word_of, sync_command}
use Rattle.script_text.specs.Headings.{is_heading, after_heading}
use Rattle.script_text.specs.Scripts.{line_of, heading_line, command_line}
use Rattle.script_text.specs.Words.{is_comment}

many : (side : Side) (word : Option CommandWord) (c d e f : List ℕ) (more : List (List ℕ)) → known_command side word (c ∷ d ∷ e ∷ f ∷ []) ≡ known_command side word (c ∷ d ∷ e ∷ f ∷ more)
many side None c d e f more = refl
many side (Some word) c d e f more = refl

-- what a line of six words means, by what they say behind each side
abbrev by_sides : Standing → List ℕ → List (List ℕ) → Result Command FaultKind → Result Command FaultKind → Result LineMeaning FaultKind
by_sides standing first rest source target =
    cond (is_comment first) (Ok Skipped)
    (cond (is_heading first) (heading_line (after_heading standing first rest))
    (command_line
    (cond (bytes_eq first (codes "s")) source
    (cond (bytes_eq first (codes "t")) target
    (cond (bytes_eq first (codes "sync")) (sync_command rest) (Err kinds.Command))))))

pub few_words : (standing : Standing) (words : List (List ℕ)) → line_of standing (take 6 words) ≡ line_of standing words
few_words standing [] = refl
few_words standing (a ∷ []) = refl
few_words standing (a ∷ b ∷ []) = refl
few_words standing (a ∷ b ∷ c ∷ []) = refl
few_words standing (a ∷ b ∷ c ∷ d ∷ []) = refl
few_words standing (a ∷ b ∷ c ∷ d ∷ e ∷ []) = refl
few_words standing (a ∷ b ∷ c ∷ d ∷ e ∷ f ∷ more) =
    let rest : List (List ℕ) = b ∷ c ∷ d ∷ e ∷ f ∷ [] in
    ap (λ (said : Result Command FaultKind). by_sides standing a rest said (known_command Target (word_of b) (c ∷ d ∷ e ∷ f ∷ []))) (many Source (word_of b) c d e f more)
    ∙ ap (λ (said : Result Command FaultKind). by_sides standing a rest (known_command Source (word_of b) (c ∷ d ∷ e ∷ f ∷ more)) said) (many Target (word_of b) c d e f more)
