use Rattle.std.proofs.Common.{◌≡◌, ◌-◌, sym, ap, subst, refl, ◌∙◌, arith}
use Rattle.std.specs.Prelude.{IsSome}
use Rattle.std.specs.Option.{option_map}
use Rattle.inode_table.specs.Kept.{told}
use Rattle.inode_table.specs.Numbered.{row_of, at_place, with_marks, state_of}
use Rattle.inode_table.specs.RowHistory.{row_at}
use Rattle.inode_table.specs.Slots.{table_in, named_rows}
use Rattle.inode_table.specs.Tabled.{put_marks, marked_row}
use Rattle.inode_table.proofs.Marking.{marked-at}
use Rattle.inode_table.proofs.Numbers.{found}
use Rattle.inode_table.proofs.Placing.{some_row, slot-told}
use Rattle.inode_table.proofs.Places.{named-marked}
use Rattle.inode_table.proofs.Tallying.{counted-same, listed-altered, weight-same, blocks-same}
use Rattle.inode_table.proofs.table.Table.set_marks.Goals as goal

pub mark_at-requires : goal.mark_at-requires
mark_at-requires c = subst IsSome (found c.args.id c.self.inside.rows.items) (subst (λ table. IsSome (row_of table.rows c.args.id)) (sym c.self.view_is) c.requires)

pub invariant_of-self : goal.invariant_of-self
invariant_of-self c =
    let rows = c.self.inside.rows.items in
    let after = c.mark_at.new.rows.items in
    let there : IsSome (at_place rows c.args.id) = subst IsSome (found c.args.id rows) (subst (λ table. IsSome (row_of table.rows c.args.id)) (sym c.self.view_is) c.requires) in
    let old = some_row (at_place rows c.args.id) there in
    let new = with_marks c.args.since c.args.carry old.0 in
    let alter = marked-at rows after c.args.id c.args.since c.args.carry old.0 old.1 c.mark_at.ensures.set in
    let kept = c.self.invariant in
    record {
      counted = counted-same rows after c.args.id old.0 new alter refl _ kept.counted;
      listed = listed-altered rows after c.args.id old.0 new alter c.self.inside.unnamed.items kept.listed;
      stack_room = let same = ap named_rows c.mark_at.ensures.set in let named = named-marked rows c.args.id c.args.since c.args.carry in omega (arith, kept.stack_room, same, named);
      blocks = kept.blocks ∙ sym (blocks-same rows after c.args.id old.0 new alter refl);
      rising = kept.rising;
      some = omega (arith, kept.some, c.mark_at.ensures.len);
      within = let same = weight-same rows after c.args.id old.0 new alter refl in omega (arith, kept.within, same);
    }

pub returns-clause-marks : goal.returns-clause-marks
returns-clause-marks c =
    let rows = c.self.inside.rows.items in
    let after = c.mark_at.new.rows.items in
    let there : IsSome (at_place rows c.args.id) = subst IsSome (found c.args.id rows) (subst (λ table. IsSome (row_of table.rows c.args.id)) (sym c.self.view_is) c.requires) in
    let old = some_row (at_place rows c.args.id) there in
    let alter = marked-at rows after c.args.id c.args.since c.args.carry old.0 old.1 c.mark_at.ensures.set in
    let was = slot-told rows c.args.id ∙ ap (option_map state_of) old.1 in
    let now : table_in after ≡ put_marks c.args.id c.args.since.0 c.args.carry.0 (row_at (table_in rows) c.args.id) (table_in rows)
    = alter.told ∙ sym (ap (λ o. put_marks c.args.id c.args.since.0 c.args.carry.0 o (table_in rows)) was) in
    (λ i. record { rows = now i; index = c.self.inside.index.items; greatest = c.mark_at.ensures.len i - 1; waiting = c.self.inside.waiting.items })
    ∙ ap (λ table. marked_row c.args.id c.args.since.0 c.args.carry.0 (told table)) c.self.view_is

pub returns-clause-here : goal.returns-clause-here
returns-clause-here c =
    let rows = c.self.inside.rows.items in
    let there : IsSome (at_place rows c.args.id) = subst IsSome (found c.args.id rows) (subst (λ table. IsSome (row_of table.rows c.args.id)) (sym c.self.view_is) c.requires) in
    let old = some_row (at_place rows c.args.id) there in
    let alter = marked-at rows c.mark_at.new.rows.items c.args.id c.args.since c.args.carry old.0 old.1 c.mark_at.ensures.set in
    found c.args.id c.mark_at.new.rows.items ∙ alter.here
    ∙ ap (option_map (with_marks c.args.since c.args.carry)) (sym old.1 ∙ sym (found c.args.id rows) ∙ ap (λ table. row_of table.rows c.args.id) c.self.view_is)

pub returns-clause-there : goal.returns-clause-there
returns-clause-there c = λ other apart.
    let rows = c.self.inside.rows.items in
    let there : IsSome (at_place rows c.args.id) = subst IsSome (found c.args.id rows) (subst (λ table. IsSome (row_of table.rows c.args.id)) (sym c.self.view_is) c.requires) in
    let old = some_row (at_place rows c.args.id) there in
    let alter = marked-at rows c.mark_at.new.rows.items c.args.id c.args.since c.args.carry old.0 old.1 c.mark_at.ensures.set in
    found other c.mark_at.new.rows.items ∙ alter.there other apart ∙ sym (found other rows) ∙ ap (λ table. row_of table.rows other) c.self.view_is
