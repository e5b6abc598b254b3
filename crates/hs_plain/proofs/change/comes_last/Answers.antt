use Rattle.std.proofs.Common.{rules, ◌≡◌, ◌+◌, length, refl, sym, ap, ◌∙◌}
use Rattle.std.specs.Prelude.{◌==◌}
use Rattle.std.specs.Ordering.{is_gt, ordering_index}
use Rattle.std.specs.declared.cmp.Ordering.{Ordering}
use Rattle.std.specs.declared.cmp.Ordering.TheVariants.{Less, Equal, Greater}
use Rattle.hs_types.specs.Names.{Names}
use Rattle.hs_plain.specs.Tree.{path_cmp}
use Rattle.hs_plain.proofs.Halves.{comes_last-so}
use Rattle.hs_plain.proofs.change.comes_last.Goals as goal

is_gt-index : (o : Ordering) → is_gt o ≡ (ordering_index o == 2)
is_gt-index Less = refl
is_gt-index Equal = refl
is_gt-index Greater = refl

pub returns-in-Some : goal.returns-in-Some
returns-in-Some g c = λ last.
    let n : length c.args.places.now ≡ c.in-Some.last + 1 = search rules in
    comes_last-so c.args.path.now c.args.places.now c.in-Some.last c.index-places-last.result c.requires n
    (ap (λ (names : Names). is_gt (path_cmp c.args.path.now names)) (sym c.items.ensures) ∙ ap is_gt (sym c.compare_paths.ensures) ∙ is_gt-index c.compare_paths.result ∙ sym c.eq.ensures ∙ last)
