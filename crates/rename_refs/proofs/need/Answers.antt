use Rattle.std.proofs.Common.{◌≡◌, ℕ, true, false, refl, sym, ap, ◌∙◌}
use Rattle.inode_table.specs.Kept.{told}
use Rattle.inode_table.specs.RowHistory.{rows_at, is_live_between}
use Rattle.table_laws.proofs.RecordTold.{live-told}
use Rattle.table_laws.specs.WholeCalls.{last_number_of}
use Rattle.rename_refs.proofs.need.Goals as goal

pub returns-then-live_between-clause-stood_for : goal.returns-then-live_between-clause-stood_for
returns-then-live_between-clause-stood_for c state all =
    let last = last_number_of (rows_at (told c.args.table.now).rows c.args.id) in
    let live : is_live_between state.members last c.args.cover.0 ≡ true =
    ap (λ (n : ℕ). is_live_between state.members n c.args.cover.0) (sym c.last_number.ensures) ∙ sym (live-told state.members c.args.snaps.now c.last_number.result c.args.cover c.always.ensures.proper all.told)
    ∙ sym c.live_between.ensures ∙ c.if-live_between.true in
    rw live refl

pub returns-else-live_between-clause-stood_for : goal.returns-else-live_between-clause-stood_for
returns-else-live_between-clause-stood_for c state all =
    let last = last_number_of (rows_at (told c.args.table.now).rows c.args.id) in
    let none : is_live_between state.members last c.args.cover.0 ≡ false =
    ap (λ (n : ℕ). is_live_between state.members n c.args.cover.0) (sym c.last_number.ensures) ∙ sym (live-told state.members c.args.snaps.now c.last_number.result c.args.cover c.always.ensures.proper all.told)
    ∙ sym c.live_between.ensures ∙ c.if-live_between.false in
    rw none refl
