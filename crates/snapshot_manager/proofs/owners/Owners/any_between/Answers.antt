use Rattle.std.proofs.Common.{sym, ap, ◌∙◌}
use Rattle.std.specs.Map.Iter.{deref_pair}
use Rattle.snapshot_manager.specs.Owners.{any_between}
use Rattle.snapshot_manager.proofs.OwnerLemmas.{any_between-none, any_between-walked}
use Rattle.snapshot_manager.proofs.owners.Owners.any_between.Goals as goal

pub returns-then-ge : goal.returns-then-ge
returns-then-ge c = sym (any_between-none c.args.low c.args.high c.args.self.now (sym c.ge.ensures ∙ c.if-ge.true))

pub returns : goal.returns
returns c = c.is_some.ensures ∙ any_between-walked deref_pair c.args.low c.args.high c.self.inside.owners.entries c.range.result c.next.new.self c.next.result (c.range.ensures.between tt) c.next.ensures.steps ∙ ap (any_between c.args.low c.args.high) c.self.view_is
