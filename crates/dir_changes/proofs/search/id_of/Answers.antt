use Rattle.std.proofs.Common.{Some, sym, ap, ◌∙◌}
use Rattle.dir_changes.proofs.PlaceLaws.{id_at-stands, id_at-belongs}
use Rattle.dir_changes.proofs.search.id_of.Goals as goal

pub returns-in-Ok : goal.returns-in-Ok
returns-in-Ok c = ap (λ e. Some e.1) (c.child.view_is ∙ c.index-children-at.is) ∙ sym (id_at-stands c.args.name.now c.args.children.now c.in-Ok.at c.index-children-at.result c.in-Ok.ensures.found)

pub returns-in-Err : goal.returns-in-Err
returns-in-Err c = sym (id_at-belongs c.args.name.now c.args.children.now c.in-Err.field-0 c.requires c.in-Err.ensures.absent)
