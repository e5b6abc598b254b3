use Rattle.std.proofs.Common.{List, Option, ℕ, sym, ap, ◌∙◌}
use Rattle.std.specs.Option.{option_copied}
use Rattle.paged_listing.specs.Items.{entries_behind}
use Rattle.paged_listing.proofs.Behind.{rest-passed}
use Rattle.paged_listing.proofs.listing.children_behind.Goals as goal

pub returns-in-Some : goal.returns-in-Some
returns-in-Some c =
    let children = c.args.children.now in
    rest-passed c.in-Some.name.now children c.passed_count.result c.requires c.passed_count.ensures.count
    ∙ ap (λ (after : Option (List ℕ)). entries_behind after children) (sym (ap option_copied c.in-Some.is))
