use Rattle.std.proofs.Common.{◌-◌, sym, ap, ◌∙◌, refl, arith}
use Rattle.inode_table.specs.Indexed.{ids_there}
use Rattle.inode_table.specs.Slots.{table_in}
use Rattle.inode_table.proofs.Noting.{between-cut}
use Rattle.inode_table.proofs.noted.made_in.Goals as goal

pub returns-then-to-from : goal.returns-then-to-from
returns-then-to-from c =
    let cut = between-cut c.args.low c.args.high c.args.index.now c.upto-from.result c.upto-to.result 0 (omega (arith, c.if-to-from.true)) c.upto-from.ensures.within c.upto-to.ensures.within
    (λ k d lt. c.upto-from.ensures.point.0 k d (omega arith) lt) c.upto-from.ensures.point.1 (λ k d lt. c.upto-to.ensures.point.0 k d (omega arith) lt) c.upto-to.ensures.point.1 in
    c.new.ensures ∙ sym (ap (ids_there (table_in c.args.rows.now.items)) cut)

pub returns : goal.returns
returns c =
    let cut = between-cut c.args.low c.args.high c.args.index.now c.upto-from.result c.upto-to.result (c.upto-to.result - c.upto-from.result) refl c.upto-from.ensures.within c.upto-to.ensures.within
    (λ k d lt. c.upto-from.ensures.point.0 k d (omega arith) lt) c.upto-from.ensures.point.1 (λ k d lt. c.upto-to.ensures.point.0 k d (omega arith) lt) c.upto-to.ensures.point.1 in
    c.of.ensures ∙ c.in_ok-ids.ensures ∙ sym (ap (ids_there (table_in c.args.rows.now.items)) cut)
