use Rattle.std.proofs.Common.{◌∙◌, sym, subst}
use Rattle.std.specs.Prelude.{IsTrue}
use Rattle.dir_changes.specs.Entries.{in_order}
use Rattle.dir_changes.proofs.UndoLaw.{in_order-without}
use Rattle.dir_changes.proofs.recorded.undone.Goals as goal

pub put_all-requires-clause-list_in_order : goal.put_all-requires-clause-list_in_order
put_all-requires-clause-list_in_order c = subst (λ l. IsTrue (in_order l)) (sym (c.from.ensures.0 ∙ c.drop_names.ensures.kept)) (in_order-without c.items.result.now c.args.list.items c.requires)
