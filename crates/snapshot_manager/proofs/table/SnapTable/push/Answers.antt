use Rattle.std.proofs.Common.{◌≡◌, ◌++◌, ◌∷◌, [], false, sym, subst, ap, ◌∙◌}
use Rattle.std.specs.Map.{values_of}
use Rattle.snapshot_manager.specs.Snapshots.{is_named}
use Rattle.snapshot_manager.specs.Inside.{AllBelow, IsTable}
use Rattle.snapshot_manager.proofs.Changes.{on_err, on_ok}
use Rattle.snapshot_manager.proofs.Entries.{insert_last, put_back, values_last, table_push}
use Rattle.snapshot_manager.proofs.table.SnapTable.push.Goals as goal

pub invariant_of-self-then-is_err : goal.invariant_of-self-then-is_err
invariant_of-self-then-is_err c =
    let es = c.self.inside.items.entries in
    let below = subst (AllBelow c.args.item.id) (sym c.self.view_is) c.requires.last in
    let names_are = on_err c.insert-2.result c.if-is_err.ensures.value c.insert-2.ensures.err in
    let items_are = put_back es c.insert.new.self.entries c.remove.new.self.entries c.args.item.id c.args.item c.self.invariant.keyed below c.in_ok-insert.ensures.entries c.remove.ensures.entries in
    subst (λ l. IsTable l c.remove.new.self.entries) (sym names_are) (subst (IsTable c.self.inside.names.entries) (sym items_are) c.self.invariant)

pub returns-then-is_err-clause-err : goal.returns-then-is_err-clause-err
returns-then-is_err-clause-err c =
    let es = c.self.inside.items.entries in
    let below = subst (AllBelow c.args.item.id) (sym c.self.view_is) c.requires.last in
    ap values_of (put_back es c.insert.new.self.entries c.remove.new.self.entries c.args.item.id c.args.item c.self.invariant.keyed below c.in_ok-insert.ensures.entries c.remove.ensures.entries) ∙ c.self.view_is

pub invariant_of-self-else-is_err : goal.invariant_of-self-else-is_err
invariant_of-self-else-is_err c =
    let es = c.self.inside.items.entries in
    let below = subst (AllBelow c.args.item.id) (sym c.self.view_is) c.requires.last in
    let fresh : is_named c.args.item.name (values_of es) ≡ false = ap (is_named c.args.item.name) c.self.view_is ∙ c.requires.fresh in
    let last = c.in_ok-insert.ensures.entries ∙ insert_last es c.args.item.id c.args.item c.self.invariant.keyed below in
    let updated = on_ok c.insert-2.result c.if-is_err.ensures.value c.insert-2.ensures.updates in
    subst (IsTable c.insert-2.new.self.entries) (sym last) (table_push c.self.inside.names.entries c.insert-2.new.self.entries es c.in_ok-key.key c.args.item c.self.invariant c.in_ok-key.ensures fresh below (λ q. updated.0 q))

pub returns-clause-ok : goal.returns-clause-ok
returns-clause-ok c =
    let es = c.self.inside.items.entries in
    let below = subst (AllBelow c.args.item.id) (sym c.self.view_is) c.requires.last in
    ap values_of (c.in_ok-insert.ensures.entries ∙ insert_last es c.args.item.id c.args.item c.self.invariant.keyed below) ∙ values_last es (c.args.item.id, c.args.item) ∙ ap (λ items. items ++ c.args.item ∷ []) c.self.view_is

pub returns-clause-names : goal.returns-clause-names
returns-clause-names c = (invariant_of-self-else-is_err c).differ
