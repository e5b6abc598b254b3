use Rattle.std.proofs.Common.{◌≡◌, ◌+◌, ◌++◌, ◌∷◌, [], Some, is_some, length, sym, ap, ◌∙◌, arith}
use Rattle.std.specs.Map.{lookup}
use Rattle.std.specs.Option.{option_copied_mut}
use Rattle.snapshot_manager.specs.Snapshots.{Snapshots, is_named, snaps_of}
use Rattle.snapshot_manager.proofs.Changes.{on_err, on_ok}
use Rattle.snapshot_manager.proofs.Entries.{some_copied_mut}
use Rattle.snapshot_manager.proofs.Histories.{history_of}
use Rattle.snapshot_manager.proofs.Tables.{at_dir, lookup_dir, snaps_are, below_next, pushed, put_back, is_changed, is_same}
use Rattle.snapshot_manager.proofs.snaps.Snaps.append.Goals as goal

pub unwrap-table-requires : goal.unwrap-table-requires
unwrap-table-requires c =
    let s : Snapshots = record { dirs = c.self.inside.dirs.entries; issued = c.self.inside.issued } in
    some_copied_mut c.get_mut.result (ap is_some (c.get_mut.ensures.value ∙ lookup_dir c.args.dir s.dirs ∙ ap (λ v. snaps_of v c.args.dir) c.self.view_is) ∙ c.requires.snapshottable)

pub push-requires-clause-fresh : goal.push-requires-clause-fresh
push-requires-clause-fresh c =
    let s : Snapshots = record { dirs = c.self.inside.dirs.entries; issued = c.self.inside.issued } in
    let items = c.unwrap-table.result.now in
    let is : lookup (at_dir c.args.dir) s.dirs ≡ Some items = sym c.get_mut.ensures.value ∙ ap option_copied_mut c.unwrap-table.ensures in
    ap (is_named c.args.item.name) (sym (snaps_are c.self.inside.owners s c.self.invariant c.args.dir items is c.args.self.now c.self.view_is)) ∙ c.requires.fresh

pub push-requires-clause-last : goal.push-requires-clause-last
push-requires-clause-last c =
    let s : Snapshots = record { dirs = c.self.inside.dirs.entries; issued = c.self.inside.issued } in
    let items = c.unwrap-table.result.now in
    let is : lookup (at_dir c.args.dir) s.dirs ≡ Some items = sym c.get_mut.ensures.value ∙ ap option_copied_mut c.unwrap-table.ensures in
    let history = history_of s c.args.dir items c.self.invariant.0 (sym (lookup_dir c.args.dir s.dirs) ∙ is) in
    below_next s.issued.0 c.args.item.id items history (c.requires.id ∙ ap (λ (v : Snapshots). v.issued.0 + 1) (sym c.self.view_is))

pub invariant_of-self-then-is_err : goal.invariant_of-self-then-is_err
invariant_of-self-then-is_err c =
    let s : Snapshots = record { dirs = c.self.inside.dirs.entries; issued = c.self.inside.issued } in
    let items = c.unwrap-table.result.now in
    let is : lookup (at_dir c.args.dir) s.dirs ≡ Some items = sym c.get_mut.ensures.value ∙ ap option_copied_mut c.unwrap-table.ensures in
    put_back c.self.inside.owners s c.self.invariant c.args.dir items is c.insert.new.self c.remove.new.self c.args.item.id (c.get_mut.follows.lender c.push.new.self).entries c.push.new.self (c.get_mut.follows.holds c.push.new.self).0
    (on_err c.push.result c.if-is_err.ensures.value c.push.ensures.err) (omega (arith, c.requires.id, ap (λ (v : Snapshots). v.issued.0) c.self.view_is)) c.in_ok-insert.ensures.ok c.remove.ensures

pub returns-then-is_err-clause-err : goal.returns-then-is_err-clause-err
returns-then-is_err-clause-err c =
    let s : Snapshots = record { dirs = c.self.inside.dirs.entries; issued = c.self.inside.issued } in
    let items = c.unwrap-table.result.now in
    let is : lookup (at_dir c.args.dir) s.dirs ≡ Some items = sym c.get_mut.ensures.value ∙ ap option_copied_mut c.unwrap-table.ensures in
    is_same c.self.inside.owners s c.self.invariant c.args.dir items is c.args.self.now (c.get_mut.follows.lender c.push.new.self).entries c.push.new.self (c.get_mut.follows.holds c.push.new.self).0 c.self.view_is (on_err c.push.result c.if-is_err.ensures.value c.push.ensures.err)

pub invariant_of-self-2 : goal.invariant_of-self-2
invariant_of-self-2 c =
    let s : Snapshots = record { dirs = c.self.inside.dirs.entries; issued = c.self.inside.issued } in
    let items = c.unwrap-table.result.now in
    let is : lookup (at_dir c.args.dir) s.dirs ≡ Some items = sym c.get_mut.ensures.value ∙ ap option_copied_mut c.unwrap-table.ensures in
    let room = ap length (sym (snaps_are c.self.inside.owners s c.self.invariant c.args.dir items is c.args.self.now c.self.view_is)) in
    pushed c.self.inside.owners s c.self.invariant c.args.dir items is c.insert.new.self c.args.item (c.get_mut.follows.lender c.push.new.self).entries c.push.new.self (c.get_mut.follows.holds c.push.new.self).0
    (on_ok c.push.result c.if-is_err.ensures.value c.push.ensures.ok) (on_ok c.push.result c.if-is_err.ensures.value c.push.ensures.names) (c.requires.id ∙ ap (λ (v : Snapshots). v.issued.0 + 1) (sym c.self.view_is))
    (omega (arith, c.requires.below_limit, room)) c.in_ok-insert.ensures.ok

pub returns-clause-ok : goal.returns-clause-ok
returns-clause-ok c =
    let s : Snapshots = record { dirs = c.self.inside.dirs.entries; issued = c.self.inside.issued } in
    let items = c.unwrap-table.result.now in
    let is : lookup (at_dir c.args.dir) s.dirs ≡ Some items = sym c.get_mut.ensures.value ∙ ap option_copied_mut c.unwrap-table.ensures in
    ap (λ (v : Snapshots). record v { issued = c.args.item.id })
    (is_changed c.self.inside.owners s c.self.invariant c.args.dir items is c.args.self.now (λ items. items ++ c.args.item ∷ []) (c.get_mut.follows.lender c.push.new.self).entries c.push.new.self (c.get_mut.follows.holds c.push.new.self).0 c.self.view_is (on_ok c.push.result c.if-is_err.ensures.value c.push.ensures.ok))
