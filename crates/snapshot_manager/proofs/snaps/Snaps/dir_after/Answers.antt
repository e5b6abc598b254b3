use Rattle.std.proofs.Common.{nat_lt, sym, ap, ◌∙◌}
use Rattle.std.specs.List.{find}
use Rattle.std.specs.Option.{option_map}
use Rattle.std.specs.Map.Iter.{deref_pair}
use Rattle.snapshot_manager.specs.Snapshots.{Snapshots, Directory}
use Rattle.snapshot_manager.proofs.Tables.{first_key, first_after, taken_none, taken_some}
use Rattle.snapshot_manager.proofs.snaps.Snaps.dir_after.Goals as goal

pub returns-in_err-above : goal.returns-in_err-above
returns-in_err-above c =
    let none = taken_none deref_pair c.range.result c.next.new.self c.in_err-above.ensures.steps in
    rw c.from_residual.ensures (sym none ∙ ap first_key (c.range.ensures.between tt) ∙ first_after c.args.dir c.self.inside.dirs.entries ∙ ap (λ (v : Snapshots). option_map (λ (d : Directory). d.0) (find (λ d. nat_lt c.args.dir.0 d.0.0) v.dirs)) c.self.view_is)

pub returns : goal.returns
returns c =
    let some = taken_some deref_pair c.range.result c.next.new.self (c.in_ok-above.above, c.in_ok-above.field-0-1) c.in_ok-above.ensures.steps in
    sym some ∙ ap first_key (c.range.ensures.between tt) ∙ first_after c.args.dir c.self.inside.dirs.entries ∙ ap (λ (v : Snapshots). option_map (λ (d : Directory). d.0) (find (λ d. nat_lt c.args.dir.0 d.0.0) v.dirs)) c.self.view_is
