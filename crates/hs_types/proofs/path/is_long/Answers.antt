use Rattle.std.proofs.Common.{◌≡◌, ◌++◌, ◌||◌, nat_lt, false, map, take, ap, sym, ◌∙◌}
use Rattle.std.specs.List.{list_any}
use Rattle.std.proofs.lemmas.List.{take-map}
use Rattle.hs_types.specs.Names.{Names}
use Rattle.hs_types.specs.Paths.{is_long_component, text_length, counted_parts}
use Rattle.hs_types.proofs.path.is_long.Goals as goal

pub returns-else-any_long : goal.returns-else-any_long
returns-else-any_long c =
    let parts = c.args.parts.now in
    let names : Names = map (λ part. part.now) parts in
    let at = c.snapshot_at-at.result in
    let base = take-map (λ part. part.now) at parts in
    let kept : map (λ part. part.now) (take at parts) ++ map (λ part. part.now) c.counted_below.result.now ≡ counted_parts names = cc in
    let none : list_any is_long_component names ≡ false = cc in
    c.is_over-over.ensures ∙ ap (λ (ns : Names). nat_lt 8000 (text_length ns)) kept
    ∙ ap (λ b. b || nat_lt 8000 (text_length (counted_parts names))) (sym none)
