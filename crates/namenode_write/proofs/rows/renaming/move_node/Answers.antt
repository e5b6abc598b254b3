use Rattle.std.proofs.Common.{sym, ap, subst, ◌∙◌}
use Rattle.inode_table.specs.Kept.{told}
use Rattle.inode_table.specs.Tabled.{Tabled}
use Rattle.namenode_write.specs.Moving.{CanMove, IsLight, moved}
use Rattle.namenode_write.proofs.RenamedCalls.{have-needs, can-move, is-light, rename-called}
use Rattle.namenode_write.proofs.rows.renaming.move_node.Goals as goal

pub move_row-requires-clause-can : goal.move_row-requires-clause-can
move_row-requires-clause-can c =
    let may = c.requires.may in
    let names = c.in_ok-names.ensures in
    subst (λ (t : Tabled). CanMove c.args.tick c.in_ok-seats.seats c.in_ok-names.names t) (sym c.make_ready.ensures.same)
    (can-move (told c.args.table.now) c.args.snaps.now may.0 may.1 may.3 may.4 c.args.old.now c.args.new.now c.in_ok-seats.seats c.in_ok-names.names c.args.tick may.5
    (c.in_ok-seats.ensures may.0 may.1) (record { old_name = names.old_name; new_name = names.new_name; spot = names.spot }) may.2)

pub move_row-requires-clause-light : goal.move_row-requires-clause-light
move_row-requires-clause-light c =
    let may = c.requires.may in
    let names = c.in_ok-names.ensures in
    subst (λ (t : Tabled). IsLight c.args.tick c.in_ok-seats.seats c.in_ok-names.names t) (sym c.make_ready.ensures.same)
    (is-light (told c.args.table.now) c.args.snaps.now may.0 may.1 may.3 may.4 c.args.old.now c.args.new.now c.in_ok-seats.seats c.in_ok-names.names c.args.tick may.5
    (c.in_ok-seats.ensures may.0 may.1) (record { old_name = names.old_name; new_name = names.new_name; spot = names.spot }) may.2 c.requires.light)

pub move_row-requires-clause-needs : goal.move_row-requires-clause-needs
move_row-requires-clause-needs c =
    let may = c.requires.may in
    have-needs (told c.args.table.now) c.args.snaps.now may.0 may.1 c.args.old.now c.args.new.now c.in_ok-seats.seats (c.in_ok-seats.ensures may.0 may.1)

pub returns-clause-moved : goal.returns-clause-moved
returns-clause-moved c state old_text new_text all next asked =
    let names = c.in_ok-names.ensures in
    rename-called (told c.args.table.now) c.args.snaps.now state all old_text new_text c.args.old.now c.args.new.now c.in_ok-seats.seats c.in_ok-names.names c.args.tick asked
    (c.in_ok-seats.ensures state all) (record { old_name = names.old_name; new_name = names.new_name; spot = names.spot }) next (told c.move_row.new.table)
    (c.move_row.ensures ∙ ap (λ (t : Tabled). moved c.args.snaps.now.issued.0 c.args.tick c.in_ok-seats.seats c.in_ok-names.names t) c.make_ready.ensures.same)
