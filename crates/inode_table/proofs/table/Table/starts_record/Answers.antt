use Rattle.std.proofs.Common.{ap, sym, ◌∙◌}
use Rattle.inode_table.specs.Kept.{TableValue, told}
use Rattle.inode_table.specs.RowHistory.{row_at}
use Rattle.inode_table.specs.Tabled.{starts_in}
use Rattle.inode_table.proofs.Placing.{slot-told}
use Rattle.inode_table.proofs.table.Table.starts_record.Goals as goal

pub returns : goal.returns
returns c =
    c.starts_at.ensures ∙ ap (starts_in c.args.cover.0) (sym (slot-told c.self.inside.rows.items c.args.id))
    ∙ ap (λ (v : TableValue). starts_in c.args.cover.0 (row_at (told v).rows c.args.id)) c.self.view_is
