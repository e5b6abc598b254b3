use Rattle.std.proofs.Common.{None, Some, sym, ap, ◌∙◌, append-nil}
use Rattle.std.specs.Option.{option_copied}
use Rattle.path_resolver.proofs.ByRows.{rows-told}
use Rattle.namenode_write.proofs.rows.lines.visit_row.Goals as goal

pub returns-in-None-clause-lines : goal.returns-in-None-clause-lines
returns-in-None-clause-lines c = rw (rows-told c.args.table.now c.args.next.id None (sym c.row.ensures ∙ ap option_copied c.in-None.is)) (sym (append-nil c.args.lines.now.items))

pub returns-in-None-clause-stack : goal.returns-in-None-clause-stack
returns-in-None-clause-stack c = rw (rows-told c.args.table.now c.args.next.id None (sym c.row.ensures ∙ ap option_copied c.in-None.is)) (sym (append-nil c.args.stack.now.items))

pub returns-in-Some-clause-lines : goal.returns-in-Some-clause-lines
returns-in-Some-clause-lines c = rw (rows-told c.args.table.now c.args.next.id (Some c.in-Some.row.now) (sym c.row.ensures ∙ ap option_copied c.in-Some.is)) c.visit.ensures.lines

pub returns-in-Some-clause-stack : goal.returns-in-Some-clause-stack
returns-in-Some-clause-stack c = rw (rows-told c.args.table.now c.args.next.id (Some c.in-Some.row.now) (sym c.row.ensures ∙ ap option_copied c.in-Some.is)) c.visit.ensures.stack
