use Rattle.std.proofs.Common.{ap, ◌∙◌}
use Rattle.std.specs.FinMap.Entries.{put}
use Rattle.hs_plain.specs.Tree.{path_cmp}
use Rattle.distcp_plan.specs.inside.Keyed.{keyed}
use Rattle.distcp_plan.proofs.Tables.{put-keyed}
use Rattle.distcp_plan.proofs.puts.place_file.Goals as goal

pub returns : goal.returns
returns c =
    let entries = c.args.places.now.entries in
    ap keyed c.in_ok-insert.ensures.entries
    ∙ put-keyed entries c.into_vec.result c.args.file.id
    ∙ ap (λ path. put path_cmp path c.args.file.id (keyed entries)) c.into_vec.ensures
