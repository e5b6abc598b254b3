use Rattle.std.proofs.Common.{◌<◌, ◌^◌, Some, [], ◌∷◌, ◌++◌, sym, ap, subst, ◌∙◌, arith}
use Rattle.inode_table.specs.Kept.{told, rows_in, IsBare}
use Rattle.inode_table.specs.Numbered.{row_of, at_place, state_of}
use Rattle.inode_table.specs.Slots.{table_in, AreCounted, AreListed}
use Rattle.inode_table.specs.Totals.{weight, block_count, blocks_named}
use Rattle.inode_table.proofs.Numbers.{found}
use Rattle.inode_table.proofs.Places.{named-few}
use Rattle.inode_table.proofs.Tallying.{Came, counted-came, listed-came, weight-came, blocks-came}
use Rattle.inode_table.proofs.table.Table.insert.Goals as goal

pub invariant_of-self-2 : goal.invariant_of-self-2
invariant_of-self-2 c =
    let before = c.make_place.new.rows.items in
    let after = c.place.new.rows.items in
    let id = c.args.id in
    let row = c.fresh.result in
    let kept = c.self.invariant in
    let came : Came before after id row = record {
      free = c.place.ensures.free;
      here = c.place.ensures.here;
      there = c.place.ensures.there;
      told = c.place.ensures.told;
      bare = subst (λ r. IsBare (state_of r).rows) (sym c.fresh.ensures) c.requires.bare;
      unnamed = ap (λ r. r.names) c.fresh.ensures;
    } in
    record {
      counted = counted-came before after id row came (subst (λ rows. AreCounted rows []) (sym c.make_place.ensures.rows) kept.counted);
      listed = subst (λ ids. AreListed after ids) (sym (c.push_reserved.ensures.items ∙ ap (λ ids. ids ++ id ∷ []) c.make_place.ensures.unnamed))
          (listed-came before after id row came c.self.inside.unnamed.items (subst (λ rows. AreListed rows c.self.inside.unnamed.items) (sym c.make_place.ensures.rows) kept.listed));
      stack_room = let few = named-few after in omega (arith, few, c.place.new.rows.ok.0, c.push_reserved.ensures.len, c.push_reserved.ensures.capacity, c.place.ensures.len, c.in_ok-make_place.ensures.stack);
      blocks =
          let all = blocks-came before after id row came in
          let own = ap (λ r. block_count (state_of r).rows) c.fresh.ensures in
          let same = ap (λ rows. blocks_named (table_in rows)) c.make_place.ensures.rows in
          omega (arith, c.in_ok-blocks.ensures.ok, c.blocks_of.ensures, kept.blocks, all, own, same);
      rising = c.note.ensures.rising;
      some = omega (arith, c.place.ensures.len);
      within =
          let more = weight-came before after id row came in
          let same = ap (λ rows. weight (table_in rows)) c.make_place.ensures.rows in
          let bound : weight (table_in c.self.inside.rows.items) < 2 ^ 32 = subst (λ table. weight (told table).rows < 2 ^ 32) (sym c.self.view_is) c.requires.bound in
          omega (arith, more, same, bound);
    }

pub returns-clause-here : goal.returns-clause-here
returns-clause-here c = ap rows_in (found c.args.id c.place.new.rows.items ∙ c.place.ensures.here) ∙ ap (λ r. Some r.rows) c.fresh.ensures

pub returns-clause-there : goal.returns-clause-there
returns-clause-there c = λ other apart.
    found other c.place.new.rows.items ∙ c.place.ensures.there other apart ∙ ap (λ rows. at_place rows other) c.make_place.ensures.rows
    ∙ sym (found other c.self.inside.rows.items) ∙ ap (λ table. row_of table.rows other) c.self.view_is
