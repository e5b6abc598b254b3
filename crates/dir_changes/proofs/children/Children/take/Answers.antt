use Rattle.std.proofs.Common.{Some, sym, ap, subst, ◌∙◌}
use Rattle.std.specs.Prelude.{IsTrue}
use Rattle.dir_changes.specs.Entries.{in_order, id_at, without_name}
use Rattle.dir_changes.proofs.EditLaws.{in_order-without_name}
use Rattle.dir_changes.proofs.PlaceLaws.{id_at-stands, id_at-belongs, without_name-stands, without_name-absent, name_at-get_or}
use Rattle.dir_changes.proofs.children.Children.take.Goals as goal

pub invariant_of-self : goal.invariant_of-self
invariant_of-self c =
    let es = c.self.inside.entries.items in
    let stands = rw c.as_slice.ensures.value at c.in-Ok.ensures.found in
    let new = c.remove.ensures.items ∙ sym (without_name-stands c.args.name.now es c.in-Ok.at c.self.invariant stands) in
    subst (λ l. IsTrue (in_order l)) (sym new) (in_order-without_name c.args.name.now es c.self.invariant)

pub returns-in-Ok-clause-found : goal.returns-in-Ok-clause-found
returns-in-Ok-clause-found c =
    let es = c.self.inside.entries.items in
    let stands = rw c.as_slice.ensures.value at c.in-Ok.ensures.found in
    ap (λ x. Some x.1) c.remove.ensures.value ∙ sym (id_at-stands c.args.name.now es c.in-Ok.at c.remove.result stands) ∙ ap (λ v. id_at c.args.name.now v.entries) c.self.view_is

pub returns-in-Ok-clause-name : goal.returns-in-Ok-clause-name
returns-in-Ok-clause-name c =
    let es = c.self.inside.entries.items in
    let stands = rw c.as_slice.ensures.value at c.in-Ok.ensures.found in
    ap (λ x. x.0) c.remove.ensures.value ∙ name_at-get_or es c.in-Ok.at c.remove.result stands.within ∙ stands.here

pub returns-in-Ok-clause-taken : goal.returns-in-Ok-clause-taken
returns-in-Ok-clause-taken c =
    let es = c.self.inside.entries.items in
    let stands = rw c.as_slice.ensures.value at c.in-Ok.ensures.found in
    c.remove.ensures.items ∙ sym (without_name-stands c.args.name.now es c.in-Ok.at c.self.invariant stands) ∙ ap (λ v. without_name c.args.name.now v.entries) c.self.view_is

pub returns-in-Err-clause-found : goal.returns-in-Err-clause-found
returns-in-Err-clause-found c =
    let es = c.self.inside.entries.items in
    let belongs = rw c.as_slice.ensures.value at c.in-Err.ensures.absent in
    sym (id_at-belongs c.args.name.now es c.in-Err.field-0 c.self.invariant belongs) ∙ ap (λ v. id_at c.args.name.now v.entries) c.self.view_is

pub returns-in-Err-clause-taken : goal.returns-in-Err-clause-taken
returns-in-Err-clause-taken c =
    let es = c.self.inside.entries.items in
    let belongs = rw c.as_slice.ensures.value at c.in-Err.ensures.absent in
    let same = without_name-absent c.args.name.now es (id_at-belongs c.args.name.now es c.in-Err.field-0 c.self.invariant belongs) in
    ap (λ v. v.entries) (sym c.self.view_is) ∙ sym same ∙ ap (λ v. without_name c.args.name.now v.entries) c.self.view_is
