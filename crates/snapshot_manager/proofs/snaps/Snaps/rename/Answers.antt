use Rattle.std.proofs.Common.{◌≡◌, ◌↔◌, [], false, Some, Err, IsTrue, OnOk, is_some, true≢false, refl, sym, ap, subst, ◌∙◌}
use Rattle.std.specs.Map.{lookup}
use Rattle.snapshot_manager.specs.declared.fault.RenameFault.TheVariants.{Taken, Missing}
use Rattle.snapshot_manager.specs.Snapshots.{Snapshots, is_named, snaps_in, renamed}
use Rattle.snapshot_manager.proofs.Tables.{at_dir, none_in, snaps_are, answered, answer_changes, answer_same}
use Rattle.snapshot_manager.proofs.snaps.Snaps.rename.Goals as goal

pub returns-in_default-clause-taken : goal.returns-in_default-clause-taken
returns-in_default-clause-taken c =
    let s : Snapshots = record { dirs = c.self.inside.dirs.entries; issued = c.self.inside.issued } in
    let none : snaps_in c.args.self.now c.args.dir ≡ [] = none_in s c.args.dir c.self.invariant.0.dirs_rise (ap is_some (sym c.in_default.ensures.value)) c.args.self.now c.self.view_is in
    (λ same. absurd (cc), λ named. absurd (true≢false (sym named ∙ ap (is_named c.args.new) none)))

pub returns-in_default-clause-missing : goal.returns-in_default-clause-missing
returns-in_default-clause-missing c =
    let s : Snapshots = record { dirs = c.self.inside.dirs.entries; issued = c.self.inside.issued } in
    let none : snaps_in c.args.self.now c.args.dir ≡ [] = none_in s c.args.dir c.self.invariant.0.dirs_rise (ap is_some (sym c.in_default.ensures.value)) c.args.self.now c.self.view_is in
    (λ _. (ap (is_named c.args.new) none, ap (is_named c.args.old.now) none), λ _. refl)

pub invariant_of-self-2 : goal.invariant_of-self-2
invariant_of-self-2 c =
    let s : Snapshots = record { dirs = c.self.inside.dirs.entries; issued = c.self.inside.issued } in
    let items = c.in-Some.table.now in
    let is : lookup (at_dir c.args.dir) s.dirs ≡ Some items = sym c.in-Some.ensures.value in
    answered c.self.inside.owners s c.self.invariant c.args.dir items is c.rename.result c.args.old.now c.args.new (c.get_mut.follows.lender c.rename.new.self).entries c.rename.new.self (c.get_mut.follows.holds c.rename.new.self).0 c.rename.ensures.ok c.rename.ensures.names c.rename.ensures.err

pub returns-clause-ok : goal.returns-clause-ok
returns-clause-ok c =
    let s : Snapshots = record { dirs = c.self.inside.dirs.entries; issued = c.self.inside.issued } in
    let items = c.in-Some.table.now in
    let is : lookup (at_dir c.args.dir) s.dirs ≡ Some items = sym c.in-Some.ensures.value in
    answer_changes c.self.inside.owners s c.self.invariant c.args.dir items is c.args.self.now (renamed c.args.old.now c.args.new) c.rename.result (c.get_mut.follows.lender c.rename.new.self).entries c.rename.new.self (c.get_mut.follows.holds c.rename.new.self).0 c.self.view_is c.rename.ensures.ok

pub returns-clause-err : goal.returns-clause-err
returns-clause-err c =
    let s : Snapshots = record { dirs = c.self.inside.dirs.entries; issued = c.self.inside.issued } in
    let items = c.in-Some.table.now in
    let is : lookup (at_dir c.args.dir) s.dirs ≡ Some items = sym c.in-Some.ensures.value in
    answer_same c.self.inside.owners s c.self.invariant c.args.dir items is c.args.self.now c.rename.result (c.get_mut.follows.lender c.rename.new.self).entries c.rename.new.self (c.get_mut.follows.holds c.rename.new.self).0 c.self.view_is c.rename.ensures.err

pub returns-clause-taken : goal.returns-clause-taken
returns-clause-taken c =
    let s : Snapshots = record { dirs = c.self.inside.dirs.entries; issued = c.self.inside.issued } in
    let items = c.in-Some.table.now in
    let is : lookup (at_dir c.args.dir) s.dirs ≡ Some items = sym c.in-Some.ensures.value in
    subst (λ items. (c.rename.result ≡ Err Taken) ↔ IsTrue (is_named c.args.new items)) (sym (snaps_are c.self.inside.owners s c.self.invariant c.args.dir items is c.args.self.now c.self.view_is)) c.rename.ensures.taken

pub returns-clause-missing : goal.returns-clause-missing
returns-clause-missing c =
    let s : Snapshots = record { dirs = c.self.inside.dirs.entries; issued = c.self.inside.issued } in
    let items = c.in-Some.table.now in
    let is : lookup (at_dir c.args.dir) s.dirs ≡ Some items = sym c.in-Some.ensures.value in
    subst (λ items. (c.rename.result ≡ Err Missing) ↔ ((is_named c.args.new items ≡ false) × (is_named c.args.old.now items ≡ false))) (sym (snaps_are c.self.inside.owners s c.self.invariant c.args.dir items is c.args.self.now c.self.view_is)) c.rename.ensures.missing

pub returns-clause-fresh : goal.returns-clause-fresh
returns-clause-fresh c =
    let s : Snapshots = record { dirs = c.self.inside.dirs.entries; issued = c.self.inside.issued } in
    let items = c.in-Some.table.now in
    let is : lookup (at_dir c.args.dir) s.dirs ≡ Some items = sym c.in-Some.ensures.value in
    subst (λ items. OnOk c.rename.result (is_named c.args.new items ≡ false)) (sym (snaps_are c.self.inside.owners s c.self.invariant c.args.dir items is c.args.self.now c.self.view_is)) c.rename.ensures.fresh

pub returns-clause-found : goal.returns-clause-found
returns-clause-found c =
    let s : Snapshots = record { dirs = c.self.inside.dirs.entries; issued = c.self.inside.issued } in
    let items = c.in-Some.table.now in
    let is : lookup (at_dir c.args.dir) s.dirs ≡ Some items = sym c.in-Some.ensures.value in
    subst (λ items. OnOk c.rename.result (IsTrue (is_named c.args.old.now items))) (sym (snaps_are c.self.inside.owners s c.self.invariant c.args.dir items is c.args.self.now c.self.view_is)) c.rename.ensures.found
