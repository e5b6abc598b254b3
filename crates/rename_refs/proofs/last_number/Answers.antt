use Rattle.std.proofs.Common.{None, Some, refl, sym, ap, ◌∙◌}
use Rattle.std.specs.Option.{option_copied}
use Rattle.rename_refs.proofs.Told.{rows-told}
use Rattle.rename_refs.proofs.last_number.Goals as goal

pub returns-in-None : goal.returns-in-None
returns-in-None c = rw (rows-told c.args.table.now c.args.id None (sym c.row.ensures ∙ ap option_copied c.in-None.is)) refl

pub returns-in-File : goal.returns-in-File
returns-in-File c = rw (rows-told c.args.table.now c.args.id (Some c.in-Some.row.now) (sym c.row.ensures ∙ ap option_copied c.in-Some.is), c.in-File.is) c.last_number.ensures

pub returns-in-Dir : goal.returns-in-Dir
returns-in-Dir c = rw (rows-told c.args.table.now c.args.id (Some c.in-Some.row.now) (sym c.row.ensures ∙ ap option_copied c.in-Some.is), c.in-Dir.is) c.last_number-in-Dir.ensures
