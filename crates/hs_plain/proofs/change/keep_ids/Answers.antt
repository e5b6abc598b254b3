use Rattle.std.proofs.Common.{rules, is_some}
use Rattle.std.proofs.lemmas.Fn.{filter_same}
use Rattle.hs_plain.specs.Tree.{place_of}
use Rattle.hs_plain.proofs.change.keep_ids.Goals as goal

pub returns : goal.returns
returns g c = filter_same _ (λ id. is_some (place_of c.args.tree.now id)) _ (λ x b f' k. search rules) _ _ c.retain.ensures.filtered
