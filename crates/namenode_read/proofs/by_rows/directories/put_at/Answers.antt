use Rattle.std.proofs.Common.{sym, ap, ◌∙◌}
use Rattle.std.specs.FinMap.Entries.{put}
use Rattle.hs_plain.specs.Tree.{path_cmp}
use Rattle.hs_types.specs.Names.{Names}
use Rattle.namenode_read.specs.Directories.{keyed, put_at}
use Rattle.namenode_read.proofs.DirPaths.{put-keyed}
use Rattle.namenode_read.proofs.by_rows.directories.put_at.Goals as goal

pub returns-in_ok-insert-in-Some : goal.returns-in_ok-insert-in-Some
returns-in_ok-insert-in-Some c =
    let entries = c.args.places.now.entries in
    ap keyed c.in_ok-insert-in-Some.ensures.entries
    ∙ put-keyed entries c.into_vec.result c.args.found
    ∙ ap (λ (path : Names). put path_cmp path c.args.found (keyed entries)) c.into_vec.ensures
    ∙ ap (λ path. put_at path c.args.found (keyed entries)) (sym c.in-Some.is)
