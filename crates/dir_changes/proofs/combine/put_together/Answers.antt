use Rattle.std.proofs.Common.{◌++◌, sym, ap, subst, ◌∙◌}
use Rattle.std.specs.Prelude.{IsTrue}
use Rattle.dir_changes.specs.Entries.{in_order, with_all}
use Rattle.dir_changes.proofs.UndoLaw.{in_order-with_all}
use Rattle.dir_changes.proofs.combine.put_together.Goals as goal

pub of_vec-requires : goal.of_vec-requires
of_vec-requires c =
    let put = c.put_all.ensures.items ∙ ap (λ l. l ++ with_all c.args.more.items c.from.result.items) c.requires.empty ∙ ap (with_all c.args.more.items) c.from.ensures.0 in
    subst (λ l. IsTrue (in_order l)) (sym put) (in_order-with_all c.args.more.items c.args.list.items c.requires.list_in_order)
