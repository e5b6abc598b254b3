use Rattle.std.proofs.Common.{◌≡◌, ◌++◌, sym, ap, subst, ◌∙◌}
use Rattle.std.specs.Prelude.{IsTrue}
use Rattle.dir_changes.specs.Entries.{in_order, among, without, with_all}
use Rattle.dir_changes.proofs.UndoLaw.{in_order-without}
use Rattle.dir_changes.proofs.CombineLaws.{in_order-among, without-among}
use Rattle.dir_changes.proofs.combine.merge_lists.Goals as goal

pub put_together-deleted-requires-clause-more_in_order : goal.put_together-deleted-requires-clause-more_in_order
put_together-deleted-requires-clause-more_in_order c =
    let gone = c.from-later_deleted.ensures.0 ∙ c.into_vec.ensures.entries in
    subst (λ l. IsTrue (in_order l)) (sym (c.take_found.ensures.rest ∙ ap (without c.items.result.now) gone)) (in_order-without c.items.result.now c.args.later.deleted.entries c.into_vec.ensures.in_order)

-- what was found are the later deleted entries that the earlier record had created
pub drop_names-requires : goal.drop_names-requires
drop_names-requires c =
    let gone = c.from-later_deleted.ensures.0 ∙ c.into_vec.ensures.entries in
    let found = c.as_slice.ensures.value ∙ c.take_found.ensures.found ∙ ap (λ l. l ++ among c.items.result.now c.from-later_deleted.result.items) c.requires.empty_found ∙ ap (among c.items.result.now) gone in
    subst (λ l. IsTrue (in_order l)) (sym found) (in_order-among c.items.result.now c.args.later.deleted.entries c.into_vec.ensures.in_order)

pub put_together-created-requires-clause-list_in_order : goal.put_together-created-requires-clause-list_in_order
put_together-created-requires-clause-list_in_order c =
    let sorted = subst (λ l. IsTrue (in_order l)) (sym c.into_vec-earlier_created.ensures.entries) c.into_vec-earlier_created.ensures.in_order in
    subst (λ l. IsTrue (in_order l)) (sym c.drop_names.ensures.kept) (in_order-without c.as_slice.result.now c.into_vec-earlier_created.result.items sorted)

pub returns-clause-merged : goal.returns-clause-merged
returns-clause-merged c =
    let made = c.args.earlier.created.entries in
    let gone = c.args.later.deleted.entries in
    let gone_is = c.from-later_deleted.ensures.0 ∙ c.into_vec.ensures.entries in
    let found : c.as_slice.result.now ≡ among made gone =
    c.as_slice.ensures.value ∙ c.take_found.ensures.found ∙ ap (λ l. l ++ among c.items.result.now c.from-later_deleted.result.items) c.requires.empty_found ∙ (λ i. among (c.items.ensures.items i) (gone_is i)) in
    let left : c.drop_names.new.list.items ≡ without gone made = c.drop_names.ensures.kept ∙ (λ i. without (found i) (c.into_vec-earlier_created.ensures.entries i)) ∙ without-among made gone in
    let later : c.from-later_created.result.items ≡ c.args.later.created.entries = c.from-later_created.ensures.0 ∙ c.into_vec-3.ensures.entries in
    let created : c.put_together-created.result.entries ≡ with_all c.args.later.created.entries (without gone made) = c.put_together-created.ensures.put ∙ (λ i. with_all (later i) (left i)) in
    let rest : c.take_found.new.list.items ≡ without made gone = c.take_found.ensures.rest ∙ (λ i. without (c.items.ensures.items i) (gone_is i)) in
    let deleted : c.put_together-deleted.result.entries ≡ with_all (without made gone) c.args.earlier.deleted.entries = c.put_together-deleted.ensures.put ∙ (λ i. with_all (rest i) (c.into_vec-2.ensures.entries i)) in
    λ i. record { created = created i; deleted = deleted i }
