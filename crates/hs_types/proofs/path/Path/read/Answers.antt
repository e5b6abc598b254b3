use Rattle.std.proofs.Common.{◌≡◌, false, ap, ◌∙◌}
use Rattle.std.specs.List.{list_all, before_first, after_first}
use Rattle.hs_types.specs.Names.{Names, is_name, is_snapshot_word}
use Rattle.hs_types.specs.Paths.{components, is_bad_path, is_too_long}
use Rattle.hs_types.proofs.Legal.{base_of_names, rest_of_names}
use Rattle.hs_types.proofs.path.Path.read.Goals as goal

pub path_of_parts-requires-clause-base : goal.path_of_parts-requires-clause-base
path_of_parts-requires-clause-base c =
    let text = c.text-text.result.now in
    let bad : is_bad_path text ≡ false = cc in
    let long : is_too_long (components text) ≡ false = cc in
    ap (λ (names : Names). list_all is_name (before_first is_snapshot_word names)) c.components_of-parts.ensures ∙ base_of_names text bad long

pub path_of_parts-requires-clause-rest : goal.path_of_parts-requires-clause-rest
path_of_parts-requires-clause-rest c =
    let text = c.text-text.result.now in
    let bad : is_bad_path text ≡ false = cc in
    let long : is_too_long (components text) ≡ false = cc in
    ap (λ (names : Names). list_all is_name (after_first is_snapshot_word names)) c.components_of-parts.ensures ∙ rest_of_names text bad long
