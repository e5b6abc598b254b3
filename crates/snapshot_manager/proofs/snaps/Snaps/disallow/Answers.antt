use Rattle.std.proofs.Common.{◌≡◌, [], sym, ap, subst, ◌∙◌}
use Rattle.snapshot_manager.specs.Snapshots.{Snapshots, snaps_in, disallowed}
use Rattle.snapshot_manager.proofs.Changes.{Kept, kept_disallowed}
use Rattle.snapshot_manager.proofs.Tables.{removed_is}
use Rattle.snapshot_manager.proofs.snaps.Snaps.disallow.Goals as goal

pub invariant_of-self : goal.invariant_of-self
invariant_of-self c =
    let s : Snapshots = record { dirs = c.self.inside.dirs.entries; issued = c.self.inside.issued } in
    let none : snaps_in s c.args.dir ≡ [] = ap (λ v. snaps_in v c.args.dir) c.self.view_is ∙ c.requires in
    subst (λ l. Kept c.self.inside.owners (record s { dirs = l })) (sym (c.remove.ensures.entries ∙ removed_is c.args.dir s.dirs c.self.invariant.0.dirs_rise)) (kept_disallowed c.self.inside.owners s c.args.dir c.self.invariant none)

pub returns : goal.returns
returns c =
    let s : Snapshots = record { dirs = c.self.inside.dirs.entries; issued = c.self.inside.issued } in
    ap (λ l. record s { dirs = l }) (c.remove.ensures.entries ∙ removed_is c.args.dir s.dirs c.self.invariant.0.dirs_rise) ∙ ap (disallowed c.args.dir) c.self.view_is
