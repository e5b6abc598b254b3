use Rattle.std.proofs.Common.{rules, not}
use Rattle.std.proofs.lemmas.Fn.{filter_same}
use Rattle.hs_plain.specs.Tree.{is_under}
use Rattle.hs_plain.proofs.change.cut.Goals as goal

pub returns : goal.returns
returns g c = filter_same _ (λ place. not (is_under c.args.path.now place)) _ (λ x b f' k. search rules) _ _ c.retain.ensures.filtered
