use Rattle.plan_laws.proofs.Translated.{translated}
use Rattle.plan_laws.proofs.translates.Goals as goal

pub returns : goal.returns
returns c = translated
