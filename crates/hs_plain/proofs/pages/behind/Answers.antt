use Rattle.std.proofs.Common.{rules, ap, ◌∙◌}
use Rattle.std.specs.List.{filter}
use Rattle.std.proofs.lemmas.Fn.{filter_same}
use Rattle.hs_plain.specs.Pages.{is_behind}
use Rattle.hs_plain.proofs.pages.behind.Goals as goal

pub returns : goal.returns
returns c =
    let name = c.args.name.now in
    c.of.ensures
    ∙ filter_same _ (is_behind name) _ (λ x b f' k. search rules) _ _ c.retain.ensures.filtered
    ∙ ap (filter (is_behind name)) c.into_vec-items.ensures
