use Rattle.std.proofs.Common.{None, Some, sym, ap, ◌∙◌}
use Rattle.std.specs.Option.{option_copied}
use Rattle.path_resolver.proofs.ByRows.{rows-told}
use Rattle.paged_listing.proofs.rows.rows_of.Goals as goal

pub returns-in-None : goal.returns-in-None
returns-in-None c = sym (rows-told c.args.table.now c.args.id None (sym c.row.ensures ∙ ap option_copied c.in-None.is))

pub returns-in-Some : goal.returns-in-Some
returns-in-Some c = sym (rows-told c.args.table.now c.args.id (Some c.in-Some.row.now) (sym c.row.ensures ∙ ap option_copied c.in-Some.is))
