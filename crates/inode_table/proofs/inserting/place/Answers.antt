use Rattle.std.proofs.Common.{◌≡◌, length, ap, ◌∙◌, arith}
use Rattle.std.specs.FinMap.Entries.{put}
use Rattle.inode_table.specs.Numbered.{numbered, table_of, state_of, at_place}
use Rattle.inode_table.specs.RowHistory.{id_order}
use Rattle.inode_table.specs.Slots.{table_in}
use Rattle.inode_table.proofs.Placing.{numbered-none, table-behind, place-behind-here, place-behind-there, place-alike, slot-past}
use Rattle.inode_table.proofs.inserting.place.Goals as goal

pub fill-preserved : goal.fill-preserved
fill-preserved c = record {
  same = ap (numbered 0) c.push_reserved.ensures.items ∙ numbered-none 0 c.fill.rows.items ∙ c.fill.invariant.same;
  len = omega (arith, c.push_reserved.ensures.len);
  capacity = c.push_reserved.ensures.capacity ∙ c.fill.invariant.capacity;
}

pub returns-clause-told : goal.returns-clause-told
returns-clause-told c =
    let rows = c.fill.rows.items in
    let is : c.args.id.0 ≡ length rows = omega (arith, c.fill.invariant.len, c.fill-test.false, c.len.ensures, c.fill.rows.ok.0) in
    ap table_in c.push_reserved-2.ensures.items ∙ table-behind rows c.args.id c.args.row is
    ∙ ap (λ es. put id_order c.args.id (state_of c.args.row) (table_of es)) c.fill.invariant.same

pub returns-clause-here : goal.returns-clause-here
returns-clause-here c =
    let rows = c.fill.rows.items in
    let is : c.args.id.0 ≡ length rows = omega (arith, c.fill.invariant.len, c.fill-test.false, c.len.ensures, c.fill.rows.ok.0) in
    ap (λ rs. at_place rs c.args.id) c.push_reserved-2.ensures.items ∙ place-behind-here rows c.args.id c.args.row is

pub returns-clause-there : goal.returns-clause-there
returns-clause-there c = λ other apart.
    let rows = c.fill.rows.items in
    let is : c.args.id.0 ≡ length rows = omega (arith, c.fill.invariant.len, c.fill-test.false, c.len.ensures, c.fill.rows.ok.0) in
    ap (λ rs. at_place rs other) c.push_reserved-2.ensures.items ∙ place-behind-there rows c.args.id other c.args.row is apart
    ∙ place-alike rows c.args.rows.now.items other c.fill.invariant.same

pub returns-clause-free : goal.returns-clause-free
returns-clause-free c = slot-past c.args.rows.now.items c.args.id (omega (arith, c.requires.behind, c.args.rows.now.ok.0))
