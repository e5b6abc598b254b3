use Rattle.std.proofs.Common.{None, Some, Ok, refl, sym, ap, ◌∙◌}
use Rattle.std.specs.Option.{option_copied}
use Rattle.file_changes.specs.declared.state.FileState.{FileState}
use Rattle.path_resolver.proofs.ByRows.{rows-told}
use Rattle.namenode_write.specs.RowFiles.{body_of}
use Rattle.namenode_write.proofs.rows.reading.file_in.Goals as goal

pub returns-in-None : goal.returns-in-None
returns-in-None c = rw (rows-told c.args.table.now c.args.id None (sym c.row.ensures ∙ ap option_copied c.in-None.is)) refl

pub returns-in-File : goal.returns-in-File
returns-in-File c = rw (rows-told c.args.table.now c.args.id (Some c.in-Some.row.now) (sym c.row.ensures ∙ ap option_copied c.in-Some.is), c.in-File.is) (ap (λ (s : FileState). Ok (body_of s)) (sym c.at-view.ensures))

pub returns-in-Dir : goal.returns-in-Dir
returns-in-Dir c = rw (rows-told c.args.table.now c.args.id (Some c.in-Some.row.now) (sym c.row.ensures ∙ ap option_copied c.in-Some.is), c.in-Dir.is) refl
