use Rattle.std.proofs.Common.{◌≤◌, length, sym, subst, ◌∙◌, arith}
use Rattle.inode_table.specs.Indexed.{IsRising}
use Rattle.inode_table.proofs.Noting.{LowAt, HighAt, noted-insert, noted-rising}
use Rattle.inode_table.proofs.noted.note.Goals as goal

pub returns-clause-noted : goal.returns-clause-noted
returns-clause-noted c =
    let xs = c.args.index.now.items in
    let low : LowAt c.args.tick xs c.upto-at.result = subst (λ l. LowAt c.args.tick l c.upto-at.result) c.as_slice.ensures.value (λ k d lt. c.upto-at.ensures.point.0 k d (omega arith) lt) in
    let high : HighAt c.args.tick xs c.upto-at.result = subst (λ l. HighAt c.args.tick l c.upto-at.result) c.as_slice.ensures.value c.upto-at.ensures.point.1 in
    let within = subst (λ l. c.upto-at.result ≤ length l) c.as_slice.ensures.value c.upto-at.ensures.within in
    c.in-Ok.ensures.items ∙ sym (noted-insert c.args.tick c.args.id xs c.upto-at.result within low high)

pub returns-clause-rising : goal.returns-clause-rising
returns-clause-rising c =
    let xs = c.args.index.now.items in
    let low : LowAt c.args.tick xs c.upto-at.result = subst (λ l. LowAt c.args.tick l c.upto-at.result) c.as_slice.ensures.value (λ k d lt. c.upto-at.ensures.point.0 k d (omega arith) lt) in
    let high : HighAt c.args.tick xs c.upto-at.result = subst (λ l. HighAt c.args.tick l c.upto-at.result) c.as_slice.ensures.value c.upto-at.ensures.point.1 in
    let within = subst (λ l. c.upto-at.result ≤ length l) c.as_slice.ensures.value c.upto-at.ensures.within in
    subst IsRising (sym c.in-Ok.ensures.items) (noted-rising c.args.tick c.args.id xs c.upto-at.result c.requires.rising within low high)
