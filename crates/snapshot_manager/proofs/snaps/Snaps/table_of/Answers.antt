use Rattle.std.proofs.Common.{IfSome, ap, subst, ◌∙◌}
use Rattle.snapshot_manager.specs.Snapshots.{Snapshots, IsHistory, snaps_of}
use Rattle.snapshot_manager.proofs.Tables.{lookup_dir, history_some}
use Rattle.snapshot_manager.proofs.snaps.Snaps.table_of.Goals as goal

pub returns-clause-value : goal.returns-clause-value
returns-clause-value c = c.get.ensures.value ∙ lookup_dir c.args.dir c.self.inside.dirs.entries ∙ ap (λ s. snaps_of s c.args.dir) c.self.view_is

pub returns-clause-history : goal.returns-clause-history
returns-clause-history c =
    let s : Snapshots = record { dirs = c.self.inside.dirs.entries; issued = c.self.inside.issued } in
    subst (λ s. IfSome c.get.result (λ table. IsHistory s.issued.0 table.now)) c.self.view_is (history_some s c.args.dir c.get.result c.self.invariant.0 (c.get.ensures.value ∙ lookup_dir c.args.dir c.self.inside.dirs.entries))
