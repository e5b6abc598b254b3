use Rattle.std.proofs.Common.{None, Some, refl, sym, ap, ◌∙◌}
use Rattle.std.specs.Option.{option_copied}
use Rattle.hs_types.specs.declared.name.Spot.{Spot}
use Rattle.path_resolver.proofs.ByRows.{rows-told}
use Rattle.path_resolver.proofs.upward.spot_at.Goals as goal

pub returns-in-None : goal.returns-in-None
returns-in-None c = rw (rows-told c.args.table.now c.args.id None (sym c.row.ensures ∙ ap option_copied c.in-None.is)) refl

pub returns-in-Some : goal.returns-in-Some
returns-in-Some c = rw (rows-told c.args.table.now c.args.id (Some c.in-Some.row.now) (sym c.row.ensures ∙ ap option_copied c.in-Some.is)) (ap (λ (s : Spot). Some s) c.spot_of.ensures)
