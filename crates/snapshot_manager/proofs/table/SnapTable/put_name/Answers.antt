use Rattle.std.proofs.Common.{◌≡◌, false, Some, is_some, sym, subst, ap, ◌∙◌}
use Rattle.std.specs.Prelude.{bytes_eq}
use Rattle.std.specs.Option.{option_copied, option_copied_mut}
use Rattle.std.specs.Map.{lookup, values_of}
use Rattle.snapshot_manager.specs.Snapshots.{is_named, renamed}
use Rattle.snapshot_manager.specs.Inside.{IsTable}
use Rattle.snapshot_manager.proofs.Entries.{is_at, is_named-names, lookup_id, some_copied, some_copied_mut, table_stands, table_renamed, names_renamed, values_renamed}
use Rattle.snapshot_manager.proofs.table.SnapTable.put_name.Goals as goal

pub unwrap-requires : goal.unwrap-requires
unwrap-requires c =
    let named = is_named-names c.self.inside.names.entries c.self.inside.items.entries c.args.old.now c.self.invariant ∙ ap (is_named c.args.old.now) c.self.view_is ∙ c.requires.there in
    some_copied c.get.result (ap is_some c.get.ensures.value ∙ named)

pub unwrap-item-requires : goal.unwrap-item-requires
unwrap-item-requires c =
    let names = c.self.inside.names.entries in
    let es = c.self.inside.items.entries in
    let id = c.unwrap.result.now in
    let at : Some id ≡ lookup (bytes_eq c.args.old.now) names = sym (ap option_copied c.unwrap.ensures) ∙ c.get.ensures.value in
    let there = table_stands names es c.args.old.now id c.self.invariant at in
    some_copied_mut c.get_mut.result (ap is_some (c.get_mut.ensures.value ∙ lookup_id id es c.self.invariant.keyed ∙ there.by_id))

pub invariant_of-self-2 : goal.invariant_of-self-2
invariant_of-self-2 c =
    let names = c.self.inside.names.entries in
    let es = c.self.inside.items.entries in
    let id = c.unwrap.result.now in
    let at : Some id ≡ lookup (bytes_eq c.args.old.now) names = sym (ap option_copied c.unwrap.ensures) ∙ c.get.ensures.value in
    let there = table_stands names es c.args.old.now id c.self.invariant at in
    let item_is : lookup (is_at id) es ≡ Some c.unwrap-item.result.now = sym c.get_mut.ensures.value ∙ ap option_copied_mut c.unwrap-item.ensures in
    let written = (c.get_mut.follows.holds (record c.unwrap-item.result.now { name = c.args.new })).0 in
    let fresh : is_named c.args.new (values_of es) ≡ false = ap (is_named c.args.new) c.self.view_is ∙ c.requires.fresh in
    let updated = names_renamed names c.insert.new.self.entries c.swap_remove.new.self.entries c.args.old.now c.in_ok-key.key c.args.new id c.in_ok-key.ensures (λ q. c.in_ok-insert.ensures.updates.0 q) (λ q. c.swap_remove.ensures.updates.0 q) in
    subst (IsTable c.swap_remove.new.self.entries) (sym written) (table_renamed names c.swap_remove.new.self.entries es c.args.old.now c.args.new id c.unwrap-item.result.now c.self.invariant there item_is fresh updated)

pub returns-clause-ok : goal.returns-clause-ok
returns-clause-ok c =
    let names = c.self.inside.names.entries in
    let es = c.self.inside.items.entries in
    let id = c.unwrap.result.now in
    let at : Some id ≡ lookup (bytes_eq c.args.old.now) names = sym (ap option_copied c.unwrap.ensures) ∙ c.get.ensures.value in
    let there = table_stands names es c.args.old.now id c.self.invariant at in
    let item_is : lookup (is_at id) es ≡ Some c.unwrap-item.result.now = sym c.get_mut.ensures.value ∙ ap option_copied_mut c.unwrap-item.ensures in
    let written = (c.get_mut.follows.holds (record c.unwrap-item.result.now { name = c.args.new })).0 in
    ap values_of written ∙ values_renamed c.args.old.now c.args.new id es c.unwrap-item.result.now c.self.invariant.keyed there item_is ∙ ap (renamed c.args.old.now c.args.new) c.self.view_is

pub returns-clause-names : goal.returns-clause-names
returns-clause-names c = (invariant_of-self-2 c).differ
