use Rattle.std.proofs.Common.{◌≡◌, false, is_some, true≢false, sym, ap, subst, ◌∙◌}
use Rattle.std.specs.Map.{lookup}
use Rattle.snapshot_manager.specs.Snapshots.{Snapshots, snaps_of, allowed}
use Rattle.snapshot_manager.proofs.Changes.{Kept}
use Rattle.snapshot_manager.proofs.Histories.{none_differ}
use Rattle.snapshot_manager.proofs.Tables.{at_dir, allowed_there, allowed_is, kept_allowed, nothing, inserted_with}
use Rattle.snapshot_manager.proofs.snaps.Snaps.allow.Goals as goal

pub returns-then-contains_key-clause-ok : goal.returns-then-contains_key-clause-ok
returns-then-contains_key-clause-ok c =
    let s : Snapshots = record { dirs = c.self.inside.dirs.entries; issued = c.self.inside.issued } in
    sym c.self.view_is ∙ sym (allowed_there s c.args.dir (sym c.contains_key.ensures ∙ c.if-contains_key.true)) ∙ ap (allowed c.args.dir) c.self.view_is

pub returns-in_err-insert-clause-already : goal.returns-in_err-insert-clause-already
returns-in_err-insert-clause-already c =
    let s : Snapshots = record { dirs = c.self.inside.dirs.entries; issued = c.self.inside.issued } in
    let none : is_some (lookup (at_dir c.args.dir) s.dirs) ≡ false = sym c.contains_key.ensures ∙ c.if-contains_key.false in
    λ some. absurd (true≢false (sym some ∙ ap (λ v. is_some (snaps_of v c.args.dir)) (sym c.self.view_is) ∙ ap is_some (nothing s c.args.dir c.self.invariant.0.dirs_rise none)))

pub invariant_of-self-2 : goal.invariant_of-self-2
invariant_of-self-2 c =
    let s : Snapshots = record { dirs = c.self.inside.dirs.entries; issued = c.self.inside.issued } in
    let none : is_some (lookup (at_dir c.args.dir) s.dirs) ≡ false = sym c.contains_key.ensures ∙ c.if-contains_key.false in
    subst (λ l. Kept c.self.inside.owners (record s { dirs = l })) (sym (c.in_ok-insert.ensures.entries ∙ inserted_with c.args.dir s.dirs c.new-table.result c.new-table.ensures)) (kept_allowed s c.args.dir c.self.invariant.0.dirs_rise none c.self.inside.owners c.self.invariant none_differ)

pub returns-clause-ok : goal.returns-clause-ok
returns-clause-ok c =
    let s : Snapshots = record { dirs = c.self.inside.dirs.entries; issued = c.self.inside.issued } in
    let none : is_some (lookup (at_dir c.args.dir) s.dirs) ≡ false = sym c.contains_key.ensures ∙ c.if-contains_key.false in
    ap (λ l. record s { dirs = l }) (c.in_ok-insert.ensures.entries ∙ inserted_with c.args.dir s.dirs c.new-table.result c.new-table.ensures) ∙ allowed_is s c.args.dir c.self.invariant.0.dirs_rise none ∙ ap (allowed c.args.dir) c.self.view_is
