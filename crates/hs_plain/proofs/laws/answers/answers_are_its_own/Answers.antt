use Rattle.hs_plain.proofs.Answers.{answers_own, refusals_own}
use Rattle.hs_plain.proofs.laws.answers.answers_are_its_own.Goals as goal

pub returns : goal.returns
returns c = record { answered = answers_own; refused = refusals_own }
