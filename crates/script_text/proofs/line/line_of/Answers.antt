use Rattle.std.proofs.Common.{ℕ, List, ap, ◌∙◌, subst}
use Rattle.std.specs.Prelude.{Result}
use Rattle.script_text.specs.declared.fault.FaultKind.{FaultKind}
use Rattle.script_text.specs.declared.line.LineMeaning.{LineMeaning}
use Rattle.script_text.specs.Faults.{Gives}
use Rattle.script_text.specs.Scripts.{line_of}
use Rattle.script_text.specs.Words.{words_of}
use Rattle.script_text.proofs.FewWords.{few_words}
use Rattle.script_text.proofs.line.line_of.Goals as goal

pub returns : goal.returns
returns c =
    let said = rw c.as_slice.ensures.value at c.meaning_of_words.ensures in
    subst (λ (meaning : Result LineMeaning FaultKind). Gives meaning c.meaning_of_words.result)
    (ap (λ (words : List (List ℕ)). line_of c.args.standing words) c.in_ok-words.ensures ∙ few_words c.args.standing (words_of c.args.line.now))
    said
