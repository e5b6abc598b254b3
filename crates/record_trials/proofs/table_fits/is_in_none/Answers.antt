use Rattle.std.proofs.Common.{ℕ, ◌<◌, List, sym, subst, arith}
use Rattle.inode_table.specs.Kept.{told}
use Rattle.inode_table.specs.Once.{IsIn}
use Rattle.inode_table.specs.RowHistory.{shown}
use Rattle.record_trials.proofs.Absent.{everywhere, not_there}
use Rattle.record_trials.proofs.table_fits.is_in_none.Goals as goal

pub returns : goal.returns
returns c = λ last.
    let table = c.args.table.now in
    let n = c.args.greatest in
    everywhere (λ d. (name : List ℕ) → IsIn (shown (told table).rows 0).entries d name c.args.id → ⊥) n
    (λ d below. c.loop-number.invariant d (omega (arith, below, c.loop-number-test.false)))
    (c.is_absent-2.ensures last)
    (λ d above name. not_there table.rows d c.args.id name (c.always.ensures.none_above d (subst (λ k. k < d.0) (sym c.requires) above)))
