use Rattle.std.proofs.Common.{sym, ap, subst, ◌∙◌}
use Rattle.std.specs.Prelude.{IsTrue}
use Rattle.dir_changes.specs.Entries.{in_order, with_entry}
use Rattle.dir_changes.proofs.UndoLaw.{in_order-with_entry}
use Rattle.dir_changes.proofs.PlaceLaws.{with_entry-stands, with_entry-belongs}
use Rattle.dir_changes.proofs.children.Children.put.Goals as goal

-- the name is there
pub invariant_of-self : goal.invariant_of-self
invariant_of-self c =
    let es = c.self.inside.entries.items in
    let stands = rw (c.as_slice.ensures.value, ap (λ x. x.0) c.child.view_is) at c.in-Ok.ensures.found in
    subst (λ l. IsTrue (in_order l)) (with_entry-stands c.args.child.0 c.args.child.1 es c.in-Ok.at stands) (in_order-with_entry c.args.child.0 c.args.child.1 es c.self.invariant)

pub returns-in-Ok-clause-put : goal.returns-in-Ok-clause-put
returns-in-Ok-clause-put c =
    let es = c.self.inside.entries.items in
    let stands = rw (c.as_slice.ensures.value, ap (λ x. x.0) c.child.view_is) at c.in-Ok.ensures.found in
    sym (with_entry-stands c.args.child.0 c.args.child.1 es c.in-Ok.at stands) ∙ ap (λ v. with_entry c.args.child.0 c.args.child.1 v.entries) c.self.view_is

-- the name isn't there
pub invariant_of-self-in-Ok-insert : goal.invariant_of-self-in-Ok-insert
invariant_of-self-in-Ok-insert c =
    let es = c.self.inside.entries.items in
    let belongs = rw (c.as_slice.ensures.value, ap (λ x. x.0) c.child.view_is) at c.in-Err.ensures.absent in
    let new = c.in-Ok-insert.ensures.items ∙ sym (with_entry-belongs c.args.child.0 c.args.child.1 es c.in-Err.at belongs) in
    subst (λ l. IsTrue (in_order l)) (sym new) (in_order-with_entry c.args.child.0 c.args.child.1 es c.self.invariant)

pub returns-in-Ok-insert-clause-put : goal.returns-in-Ok-insert-clause-put
returns-in-Ok-insert-clause-put c =
    let es = c.self.inside.entries.items in
    let belongs = rw (c.as_slice.ensures.value, ap (λ x. x.0) c.child.view_is) at c.in-Err.ensures.absent in
    c.in-Ok-insert.ensures.items ∙ sym (with_entry-belongs c.args.child.0 c.args.child.1 es c.in-Err.at belongs) ∙ ap (λ v. with_entry c.args.child.0 c.args.child.1 v.entries) c.self.view_is
