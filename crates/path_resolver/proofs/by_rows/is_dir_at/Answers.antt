use Rattle.std.proofs.Common.{sym, ap, ◌∙◌}
use Rattle.hs_types.specs.declared.ids.InodeId.{InodeId}
use Rattle.inode_table.specs.Kept.{told}
use Rattle.inode_table.specs.RowHistory.{rows_at}
use Rattle.path_resolver.specs.ByRows.{is_dir_row}
use Rattle.path_resolver.proofs.Live.{dir-there}
use Rattle.path_resolver.proofs.by_rows.is_dir_at.Goals as goal

pub returns : goal.returns
returns c snaps state all path node at named = c.is_dir_by_rows.ensures ∙ ap (λ (i : InodeId). is_dir_row (rows_at (told c.args.table.now).rows i)) (sym named) ∙ dir-there (told c.args.table.now) snaps state all path node at
