use Rattle.std.proofs.Common.{◌≡◌, ◌++◌, ◌∷◌, [], None, ap, ◌∙◌}
use Rattle.hs_types.specs.Names.{Names}
use Rattle.hs_types.specs.declared.ids.InodeId.{InodeId}
use Rattle.dir_changes.specs.Entries.{Entry}
use Rattle.inode_table.specs.Kept.{told}
use Rattle.inode_table.specs.RowHistory.{rows_at}
use Rattle.path_resolver.specs.ByRows.{is_dir_row}
use Rattle.change_report.specs.Found.{row_line}
use Rattle.change_report.proofs.Told.{looked-at}
use Rattle.change_report.proofs.listed.entry_line.Goals as goal

pub returns-clause-line : goal.returns-clause-line
returns-clause-line c =
    let rows = (told c.args.table.now.table).rows in
    let id : InodeId = c.child.inside.id in
    let path : c.push.new.self ≡ c.args.path.now ++ c.child.inside.name ∷ [] =
    c.in_ok-push.ensures.ok ∙ ap (λ (p : Names). p ++ c.in_ok-copy.field-0 ∷ []) c.in_ok-below.ensures ∙ ap (λ n. c.args.path.now ++ n ∷ []) c.in_ok-copy.ensures in
    let dir : c.is_dir-is_dir.result ≡ is_dir_row (rows_at rows id) = c.is_dir-is_dir.ensures ∙ ap is_dir_row (looked-at c.args.table.now.table id c.row.result c.row.ensures.row) in
    ap (λ (p : Names). row_line c.args.side.kind p None id c.is_dir-is_dir.result) path
    ∙ ap (λ b. row_line c.args.side.kind (c.args.path.now ++ c.child.inside.name ∷ []) None id b) dir
    ∙ ap (λ (e : Entry). row_line c.args.side.kind (c.args.path.now ++ e.0 ∷ []) None e.1 (is_dir_row (rows_at rows e.1))) c.child.view_is
