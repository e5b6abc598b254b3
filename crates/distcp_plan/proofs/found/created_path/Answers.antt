use Rattle.std.proofs.Common.{◌∷◌, [], ◌++◌, ap, ◌∙◌}
use Rattle.std.proofs.lemmas.Result.{IfOk-weaker}
use Rattle.hs_plain.specs.Tree.{parent_of}
use Rattle.hs_plain.specs.Plan.{translate}
use Rattle.distcp_plan.proofs.Steps.{last-at}
use Rattle.distcp_plan.proofs.found.created_path.Goals as goal

pub returns : goal.returns
returns c =
    let path = c.args.path.now in
    IfOk-weaker c.with_name.result _ _
    (λ whole e. e
    ∙ ap (λ dir. dir ++ c.index-path-above.result ∷ []) c.in_ok-dir.ensures
    ∙ ap (λ name. translate c.args.moves.now (parent_of path) ++ name ∷ []) (c.index-path-above.is ∙ last-at path c.index-path-above.result c.requires))
    c.with_name.ensures
