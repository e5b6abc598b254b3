use Rattle.std.proofs.Common.{ℕ, ◌+◌, Option, sym, subst}
use Rattle.std.specs.Prelude.{OnOk}
use Rattle.inode_table.specs.declared.row.Row.{Row}
use Rattle.inode_table.specs.Kept.{IsReady, IsRowReady}
use Rattle.inode_table.proofs.changing.change_slot.Goals as goal

pub returns-clause-kept : goal.returns-clause-kept
returns-clause-kept c =
    subst (λ (o : Option Row). OnOk c.change_row.result ((n : ℕ) → IsRowReady (n + 1) c.args.cover.0 o → IsReady n c.args.cover.0 c.change_row.new.row.rows)) (sym c.in-Some.is) c.change_row.ensures.kept
