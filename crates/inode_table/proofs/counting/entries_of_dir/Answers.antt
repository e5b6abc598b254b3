use Rattle.std.proofs.Common.{◌≡◌, ◌+◌, ◌<◌, length, add-one, sym, subst, ap, ◌∙◌, arith}
use Rattle.inode_table.specs.Places.{entries_at}
use Rattle.inode_table.proofs.Summing.{entries_from, entries-step, entries-all}
use Rattle.inode_table.proofs.counting.entries_of_dir.Goals as goal

pub overflow_add-entries : goal.overflow_add-entries
overflow_add-entries c =
    let rs = c.args.dir.now.history.records in
    let lt : c.loop-i.i < length rs = omega (arith, c.count-i-end.ensures.count) in
    let step = entries-step c.loop-i.i rs lt in
    omega (arith, step, c.loop-i.invariant, c.requires, c.entries_at-entries.ensures)

pub loop-i-preserved : goal.loop-i-preserved
loop-i-preserved c =
    let rs = c.args.dir.now.history.records in
    let lt : c.loop-i.i < length rs = omega (arith, c.count-i-end.ensures.count) in
    let step : entries_from c.loop-i.i rs ≡ entries_at c.loop-i.i rs + entries_from (c.loop-i.i + 1) rs
    = subst (λ n. entries_from c.loop-i.i rs ≡ entries_at c.loop-i.i rs + entries_from n rs) (sym (add-one c.loop-i.i)) (entries-step c.loop-i.i rs lt) in
    omega (arith, step, c.loop-i.invariant, c.entries_at-entries.ensures)

pub returns : goal.returns
returns c =
    let rs = c.args.dir.now.history.records in
    let ends : c.loop-i.i ≡ length rs = omega (arith, c.count-i-end.ensures.count) in
    let none = ap (λ n. entries_from n rs) ends ∙ entries-all rs in
    omega (arith, none, c.loop-i.invariant)
