use Rattle.std.proofs.Common.{ℕ, ◌+◌, ◌^◌, ◌<◌, subst}
use Rattle.inode_table.specs.declared.row.Rows.{Rows}
use Rattle.inode_table.specs.Kept.{blocks_more}
use Rattle.inode_table.specs.Numbered.{history_of}
use Rattle.inode_table.specs.Tabled.{changed_rows}
use Rattle.inode_table.proofs.changing.blocks_of_row.Goals as goal

pub returns-in-File-clause-room : goal.returns-in-File-clause-room
returns-in-File-clause-room c = λ room.
    c.blocks_of_file.ensures.room (subst (λ (r : Rows). (tick : ℕ) → c.args.blocks + blocks_more (history_of r) (changed_rows c.args.cover.0 tick c.args.what.now (history_of r)) < 2 ^ 64) c.in-File.is room)
