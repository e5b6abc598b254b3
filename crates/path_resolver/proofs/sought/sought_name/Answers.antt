use Rattle.std.proofs.Common.{Err, ap, ◌∙◌}
use Rattle.hs_plain.proofs.ValidLists.{not_so}
use Rattle.path_resolver.proofs.Named.{nameless}
use Rattle.path_resolver.proofs.sought.sought_name.Goals as goal

pub returns-in-Err-Illegal-clause-refused : goal.returns-in-Err-Illegal-clause-refused
returns-in-Err-Illegal-clause-refused c = λ table snaps state all dir. nameless table snaps state all dir c.args.text.now (not_so _ (c.read.ensures.illegal (c.in-Err-Illegal.is ∙ ap (λ e. Err e) c.in-Err-Illegal.field-0-is)))
