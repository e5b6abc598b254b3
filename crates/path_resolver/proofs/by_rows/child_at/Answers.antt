use Rattle.std.proofs.Common.{None, Some, refl, sym, ap, ◌∙◌}
use Rattle.std.specs.Option.{option_copied}
use Rattle.dir_changes.specs.Entries.{id_at}
use Rattle.dir_changes.specs.History.{children_at}
use Rattle.path_resolver.proofs.ByRows.{rows-told, ok_or-named}
use Rattle.path_resolver.proofs.by_rows.child_at.Goals as goal

pub returns-in-None : goal.returns-in-None
returns-in-None c = rw (rows-told c.args.table.now c.args.id None (sym c.row.ensures ∙ ap option_copied c.in-None.is)) refl

pub returns-in-File : goal.returns-in-File
returns-in-File c = rw (rows-told c.args.table.now c.args.id (Some c.in-Some.row.now) (sym c.row.ensures ∙ ap option_copied c.in-Some.is), c.in-File.is) refl

pub returns-in-Dir : goal.returns-in-Dir
returns-in-Dir c = rw (rows-told c.args.table.now c.args.id (Some c.in-Some.row.now) (sym c.row.ensures ∙ ap option_copied c.in-Some.is), c.in-Dir.is) (c.ok_or.ensures.value ∙ rw c.child_at.ensures (ok_or-named (id_at c.args.name.now (children_at c.args.s.0 c.in-Dir.dir.history))))
