use Rattle.std.proofs.Common.{◌∙◌}
use Rattle.std.proofs.lemmas.Result.{IfOk-weaker}
use Rattle.inode_table.specs.Kept.{told}
use Rattle.namenode_write.proofs.RowLines.{lines-told}
use Rattle.namenode_write.proofs.rows.lines.tree_lines.Goals as goal

pub returns : goal.returns
returns c = IfOk-weaker c.lines_by_rows.result _ _ (λ lines h snaps state plain all sized. h ∙ lines-told (told c.args.table.now) snaps state all plain sized) c.lines_by_rows.ensures
