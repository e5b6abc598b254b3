use Rattle.std.proofs.Common.{◌≡◌, false, is_some, sym, subst, ap, ◌∙◌}
use Rattle.std.specs.List.{find}
use Rattle.std.specs.Map.{values_of}
use Rattle.snapshot_manager.specs.Snapshots.{has_name, is_named, without}
use Rattle.snapshot_manager.specs.Inside.{IsTable}
use Rattle.snapshot_manager.proofs.Entries.{is_named-names, lookup_id, table_stands, values_without, table_without}
use Rattle.snapshot_manager.proofs.Lists.{filter_nowhere, nowhere_from_any}
use Rattle.snapshot_manager.proofs.table.SnapTable.remove.Goals as goal

pub returns-in_err-id-clause-rest : goal.returns-in_err-id-clause-rest
returns-in_err-id-clause-rest c =
    let es = c.self.inside.items.entries in
    let none : is_named c.args.name.now (values_of es) ≡ false = sym (is_named-names c.self.inside.names.entries es c.args.name.now c.self.invariant) ∙ ap is_some (sym c.in_err-id.ensures.value) in
    sym (filter_nowhere (has_name c.args.name.now) (values_of es) (nowhere_from_any (has_name c.args.name.now) (values_of es) none)) ∙ ap (without c.args.name.now) c.self.view_is

pub invariant_of-self-2 : goal.invariant_of-self-2
invariant_of-self-2 c =
    let names = c.self.inside.names.entries in
    let es = c.self.inside.items.entries in
    let there = table_stands names es c.args.name.now c.in_ok-id.id c.self.invariant c.in_ok-id.ensures.value in
    subst (IsTable c.swap_remove.new.self.entries) (sym c.remove.ensures.entries) (table_without names c.swap_remove.new.self.entries es c.args.name.now c.in_ok-id.id c.self.invariant there (λ q. c.in_ok-id.ensures.updates.0 q))

pub returns-clause-found : goal.returns-clause-found
returns-clause-found c =
    let es = c.self.inside.items.entries in
    let there = table_stands c.self.inside.names.entries es c.args.name.now c.in_ok-id.id c.self.invariant c.in_ok-id.ensures.value in
    c.remove.ensures.value ∙ lookup_id c.in_ok-id.id es c.self.invariant.keyed ∙ there.by_id ∙ sym there.by_name ∙ ap (find (has_name c.args.name.now)) c.self.view_is

pub returns-clause-rest : goal.returns-clause-rest
returns-clause-rest c =
    let es = c.self.inside.items.entries in
    let there = table_stands c.self.inside.names.entries es c.args.name.now c.in_ok-id.id c.self.invariant c.in_ok-id.ensures.value in
    ap values_of c.remove.ensures.entries ∙ values_without c.args.name.now c.in_ok-id.id es c.self.invariant.keyed there ∙ ap (without c.args.name.now) c.self.view_is

pub returns-clause-names : goal.returns-clause-names
returns-clause-names c = (invariant_of-self-2 c).differ
