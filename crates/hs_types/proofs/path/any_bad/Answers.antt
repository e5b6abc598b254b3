use Rattle.std.proofs.Common.{rules, ◌≡◌, ◌∙◌}
use Rattle.std.specs.List.{list_any}
use Rattle.std.proofs.lemmas.Iterator.{YieldsList-from_slice}
use Rattle.std.proofs.lemmas.Iterator.Search.{any_from_yields_List}
use borrow.Author.Tests.{tests}
use Rattle.hs_types.specs.Paths.{is_bad_component}
use Rattle.hs_types.proofs.Parts.{list_any-map}
use Rattle.hs_types.proofs.path.any_bad.Goals as goal

pub returns : goal.returns
returns c =
    let tested : c.any.result ≡ list_any (λ part. is_bad_component part.now) c.args.parts.now =
    any_from_yields_List (λ part. is_bad_component part.now) _ _ c.any.result c.any.ensures.ran (YieldsList-from_slice c.args.parts.now (cc)) (λ x b q k. search (rules, tests)) in
    tested ∙ list_any-map is_bad_component (λ part. part.now) c.args.parts.now
