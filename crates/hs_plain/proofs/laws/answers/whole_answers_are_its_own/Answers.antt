use Rattle.hs_plain.proofs.Answers.{whole_answers_own, whole_refusals_own}
use Rattle.hs_plain.proofs.laws.answers.whole_answers_are_its_own.Goals as goal

pub returns : goal.returns
returns c = record { answered = whole_answers_own; refused = whole_refusals_own }
