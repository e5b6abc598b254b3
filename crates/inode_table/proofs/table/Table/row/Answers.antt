use Rattle.std.proofs.Common.{sym, ap, ◌∙◌}
use Rattle.inode_table.specs.Numbered.{row_of}
use Rattle.inode_table.proofs.Numbers.{found}
use Rattle.inode_table.proofs.table.Table.row.Goals as goal

pub returns : goal.returns
returns c = c.row_at.ensures ∙ sym (found c.args.id c.self.inside.rows.items) ∙ ap (λ table. row_of table.rows c.args.id) c.self.view_is
