use Rattle.std.proofs.Common.{sym, ap, ◌∙◌}
use Rattle.std.specs.Option.{option_copied}
use Rattle.path_resolver.proofs.Named.{named-some, named-none}
use Rattle.path_resolver.proofs.sought.snapshot_named.Goals as goal

pub returns-in-Some : goal.returns-in-Some
returns-in-Some c = λ table state all. sym (named-some table c.args.snaps.now state all c.args.dir c.args.name.now c.in-Some.item.now (sym c.by_name.ensures ∙ ap option_copied c.in-Some.is))

pub returns-in-None : goal.returns-in-None
returns-in-None c = λ table state all. sym (named-none table c.args.snaps.now state all c.args.dir c.args.name.now (sym c.by_name.ensures ∙ ap option_copied c.in-None.is))
