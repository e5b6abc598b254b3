use Rattle.std.proofs.Common.{ap, sym, ◌∙◌, arith}
use Rattle.inode_table.specs.Slots.{named_rows}
use Rattle.inode_table.proofs.Places.{named-ended, named-not_ended}
use Rattle.inode_table.proofs.releasing.name_less.Goals as goal

pub push_reserved-requires : goal.push_reserved-requires
push_reserved-requires c = let fewer = named-ended c.args.id c.args.rows.now.items (sym c.lessen.ensures.last ∙ c.if-lessen.true) in omega (arith, fewer, c.requires)

pub returns-then-lessen-clause-room : goal.returns-then-lessen-clause-room
returns-then-lessen-clause-room c =
    let fewer = named-ended c.args.id c.args.rows.now.items (sym c.lessen.ensures.last ∙ c.if-lessen.true) in
    let same = ap named_rows c.lessen.ensures.rows in
    omega (arith, fewer, same, c.requires, c.push_reserved.ensures.len, c.push_reserved.ensures.capacity)

pub returns-else-lessen-clause-room : goal.returns-else-lessen-clause-room
returns-else-lessen-clause-room c =
    let fewer = named-not_ended c.args.id c.args.rows.now.items (sym c.lessen.ensures.last ∙ c.if-lessen.false) in
    let same = ap named_rows c.lessen.ensures.rows in
    omega (arith, fewer, same, c.requires)
