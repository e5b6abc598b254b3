use Rattle.std.proofs.Common.{◌≡◌, [], Some, is_some, sym, ap, ◌∙◌}
use Rattle.std.specs.List.{find}
use Rattle.std.specs.Option.{option_map}
use Rattle.std.specs.Map.{lookup}
use Rattle.hs_types.specs.declared.name.SnapItem.{SnapItem}
use Rattle.snapshot_manager.specs.Snapshots.{Snapshots, has_name, snaps_in, changed, without}
use Rattle.snapshot_manager.proofs.Directories.{changed-nowhere}
use Rattle.snapshot_manager.proofs.Tables.{at_dir, absent, none_in, without_none, snaps_are, same, left_out, is_changed}
use Rattle.snapshot_manager.proofs.snaps.Snaps.remove.Goals as goal

pub returns-in_err-table-clause-id : goal.returns-in_err-table-clause-id
returns-in_err-table-clause-id c =
    let s : Snapshots = record { dirs = c.self.inside.dirs.entries; issued = c.self.inside.issued } in
    let none : snaps_in c.args.self.now c.args.dir ≡ [] = none_in s c.args.dir c.self.invariant.0.dirs_rise (ap is_some (sym c.in_err-table.ensures.value)) c.args.self.now c.self.view_is in
    rw c.from_residual.ensures (sym (ap (λ l. option_map (λ (item : SnapItem). item.id) (find (has_name c.args.name.now) l)) none))

pub returns-in_err-table-clause-rest : goal.returns-in_err-table-clause-rest
returns-in_err-table-clause-rest c =
    let s : Snapshots = record { dirs = c.self.inside.dirs.entries; issued = c.self.inside.issued } in
    ap (λ m. record s { dirs = m.entries }) c.get_mut.follows.holds-at-none ∙ sym (changed-nowhere c.args.dir s (absent c.args.dir s.dirs (ap is_some (sym c.in_err-table.ensures.value))) (without c.args.name.now)) ∙ ap (changed c.args.dir (without c.args.name.now)) c.self.view_is

pub invariant_of-self-in_err-item : goal.invariant_of-self-in_err-item
invariant_of-self-in_err-item c =
    let s : Snapshots = record { dirs = c.self.inside.dirs.entries; issued = c.self.inside.issued } in
    let items = c.in_ok-table.table.now in
    let is : lookup (at_dir c.args.dir) s.dirs ≡ Some items = sym c.in_ok-table.ensures.value in
    let left = c.in_err-item.ensures.rest ∙ without_none c.args.name.now items (sym c.in_err-item.ensures.found) in
    same c.self.inside.owners s c.self.invariant c.args.dir items is (c.get_mut.follows.lender c.remove.new.self).entries c.remove.new.self (c.get_mut.follows.holds c.remove.new.self).0 left

pub returns-in_err-item-clause-id : goal.returns-in_err-item-clause-id
returns-in_err-item-clause-id c =
    let s : Snapshots = record { dirs = c.self.inside.dirs.entries; issued = c.self.inside.issued } in
    let items = c.in_ok-table.table.now in
    let is : lookup (at_dir c.args.dir) s.dirs ≡ Some items = sym c.in_ok-table.ensures.value in
    rw c.from_residual-in_err-item.ensures (ap (option_map (λ (item : SnapItem). item.id)) (c.in_err-item.ensures.found ∙ ap (find (has_name c.args.name.now)) (sym (snaps_are c.self.inside.owners s c.self.invariant c.args.dir items is c.args.self.now c.self.view_is))))

pub returns-in_err-item-clause-rest : goal.returns-in_err-item-clause-rest
returns-in_err-item-clause-rest c =
    let s : Snapshots = record { dirs = c.self.inside.dirs.entries; issued = c.self.inside.issued } in
    let items = c.in_ok-table.table.now in
    let is : lookup (at_dir c.args.dir) s.dirs ≡ Some items = sym c.in_ok-table.ensures.value in
    is_changed c.self.inside.owners s c.self.invariant c.args.dir items is c.args.self.now (without c.args.name.now) (c.get_mut.follows.lender c.remove.new.self).entries c.remove.new.self (c.get_mut.follows.holds c.remove.new.self).0 c.self.view_is c.in_err-item.ensures.rest

pub invariant_of-self-2 : goal.invariant_of-self-2
invariant_of-self-2 c =
    let s : Snapshots = record { dirs = c.self.inside.dirs.entries; issued = c.self.inside.issued } in
    let items = c.in_ok-table.table.now in
    let is : lookup (at_dir c.args.dir) s.dirs ≡ Some items = sym c.in_ok-table.ensures.value in
    left_out c.self.inside.owners s c.self.invariant c.args.dir items is c.remove-2.new.self c.args.name.now c.in_ok-item.item (c.get_mut.follows.lender c.remove.new.self).entries c.remove.new.self (c.get_mut.follows.holds c.remove.new.self).0 c.in_ok-item.ensures.rest c.in_ok-item.ensures.names (sym c.in_ok-item.ensures.found) c.remove-2.ensures

pub returns-clause-id : goal.returns-clause-id
returns-clause-id c =
    let s : Snapshots = record { dirs = c.self.inside.dirs.entries; issued = c.self.inside.issued } in
    let items = c.in_ok-table.table.now in
    let is : lookup (at_dir c.args.dir) s.dirs ≡ Some items = sym c.in_ok-table.ensures.value in
    ap (option_map (λ (item : SnapItem). item.id)) (c.in_ok-item.ensures.found ∙ ap (find (has_name c.args.name.now)) (sym (snaps_are c.self.inside.owners s c.self.invariant c.args.dir items is c.args.self.now c.self.view_is)))

pub returns-clause-rest : goal.returns-clause-rest
returns-clause-rest c =
    let s : Snapshots = record { dirs = c.self.inside.dirs.entries; issued = c.self.inside.issued } in
    let items = c.in_ok-table.table.now in
    let is : lookup (at_dir c.args.dir) s.dirs ≡ Some items = sym c.in_ok-table.ensures.value in
    is_changed c.self.inside.owners s c.self.invariant c.args.dir items is c.args.self.now (without c.args.name.now) (c.get_mut.follows.lender c.remove.new.self).entries c.remove.new.self (c.get_mut.follows.holds c.remove.new.self).0 c.self.view_is c.in_ok-item.ensures.rest
