use Rattle.page_join.proofs.Chains.{made_are_legal}
use Rattle.page_join.proofs.laws.made_are_legal.Goals as goal

pub returns : goal.returns
returns c = made_are_legal
