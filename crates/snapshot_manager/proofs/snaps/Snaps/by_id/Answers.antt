use Rattle.std.proofs.Common.{◌≡◌, None, sym, ap, ◌∙◌}
use Rattle.snapshot_manager.specs.Snapshots.{Snapshots, live_at, snaps_of}
use Rattle.snapshot_manager.proofs.Indexed.{live_at-none, live_at-some, owner_there, owner_finds}
use Rattle.snapshot_manager.proofs.snaps.Snaps.by_id.Goals as goal

pub returns-in_err-dir : goal.returns-in_err-dir
returns-in_err-dir c =
    let s : Snapshots = record { dirs = c.self.inside.dirs.entries; issued = c.self.inside.issued } in
    let none : live_at c.args.self.now c.args.id ≡ None = ap (λ v. live_at v c.args.id) (sym c.self.view_is) ∙ live_at-none c.self.inside.owners s c.self.invariant.0 c.self.invariant.1 c.args.id (sym c.in_err-dir.ensures) in
    rw c.from_residual.ensures (sym none)

pub returns-in_err-table_of : goal.returns-in_err-table_of
returns-in_err-table_of c =
    let s : Snapshots = record { dirs = c.self.inside.dirs.entries; issued = c.self.inside.issued } in
    absurd (owner_there c.self.inside.owners s c.self.invariant.0 c.self.invariant.1 c.args.id c.in_ok-dir.dir (sym c.in_ok-dir.ensures) (ap (λ v. snaps_of v c.in_ok-dir.dir) c.self.view_is ∙ sym c.in_err-table_of.ensures.value))

pub returns-in_err-item : goal.returns-in_err-item
returns-in_err-item c =
    let s : Snapshots = record { dirs = c.self.inside.dirs.entries; issued = c.self.inside.issued } in
    absurd (owner_finds c.self.inside.owners s c.self.invariant.0 c.self.invariant.1 c.args.id c.in_ok-dir.dir c.in_ok-table_of.field-0.now (sym c.in_ok-dir.ensures) (ap (λ v. snaps_of v c.in_ok-dir.dir) c.self.view_is ∙ sym c.in_ok-table_of.ensures.value) (sym c.in_err-item.ensures))

pub returns : goal.returns
returns c =
    let s : Snapshots = record { dirs = c.self.inside.dirs.entries; issued = c.self.inside.issued } in
    sym (ap (λ v. live_at v c.args.id) (sym c.self.view_is)
    ∙ live_at-some c.self.inside.owners s c.self.invariant.0 c.self.invariant.1 c.args.id c.in_ok-dir.dir c.in_ok-table_of.field-0.now c.in_ok-item.item.now (sym c.in_ok-dir.ensures) (ap (λ v. snaps_of v c.in_ok-dir.dir) c.self.view_is ∙ sym c.in_ok-table_of.ensures.value) (sym c.in_ok-item.ensures))
