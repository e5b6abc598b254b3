use Rattle.std.proofs.Common.{ap, refl, arith}
use Rattle.hs_types.specs.declared.ids.SnapId.{SnapId}
use Rattle.inode_table.specs.Kept.{told}
use Rattle.inode_table.specs.RowHistory.{File}
use Rattle.inode_table.specs.Tabled.{Tabled}
use Rattle.inode_table.specs.Totals.{weight}
use Rattle.namenode_write.specs.NewNodes.{without_entry}
use Rattle.namenode_write.proofs.MadeCalls.{place-room, rows-of-file, take-may, take-called, without-light}
use Rattle.namenode_write.proofs.rows.making_nodes.file_over.Goals as goal

pub replace_node-freed-requires-clause-may : goal.replace_node-freed-requires-clause-may
replace_node-freed-requires-clause-may c =
    let there = c.requires.there c.requires.asks.0 c.requires.asks.1.stands in
    take-may (told c.args.table.now) c.args.snaps.now c.args.path.now c.in_ok-parent.field-0 c.in_ok-parent.ensures.place c.args.tick (told c.ready_place.new.table) c.issued.result.0 (File c.new.result.history)
    c.ready_place.ensures.same (ap (λ (i : SnapId). i.0) c.issued.ensures) c.requires.asks.0 c.requires.asks.1
    (rows-of-file c.new.result.history c.in_ok-parent.field-0.spot c.of_file.result c.args.tick c.new.ensures.history c.of_file.ensures)
    there.0 there.1

pub replace_node-freed-requires-clause-left : goal.replace_node-freed-requires-clause-left
replace_node-freed-requires-clause-left c =
    let there = c.requires.there c.requires.asks.0 c.requires.asks.1.stands in
    let may = take-may (told c.args.table.now) c.args.snaps.now c.args.path.now c.in_ok-parent.field-0 c.in_ok-parent.ensures.place c.args.tick (told c.args.table.now) c.args.snaps.now.issued.0 (File c.new.result.history)
    refl refl c.requires.asks.0 c.requires.asks.1
    (rows-of-file c.new.result.history c.in_ok-parent.field-0.spot c.of_file.result c.args.tick c.new.ensures.history c.of_file.ensures)
    there.0 there.1 in
    let light = without-light (told c.args.table.now) c.args.snaps.now c.requires.asks.0 c.requires.asks.1.stands c.in_ok-parent.field-0.parent c.in_ok-parent.field-0.name c.args.tick may.out in
    let same = ap (λ (t : Tabled). weight (without_entry c.in_ok-parent.field-0.parent c.in_ok-parent.field-0.name c.args.tick t).rows) c.ready_place.ensures.same in
    let bound = c.requires.bound in
    omega (arith, light, same, bound)

pub replace_node-freed-requires-clause-room : goal.replace_node-freed-requires-clause-room
replace_node-freed-requires-clause-room c =
    place-room (told c.args.table.now) c.args.snaps.now c.args.path.now c.in_ok-parent.field-0 c.in_ok-parent.ensures.place c.requires.asks.0 c.ready_place.new.table c.requires.asks.1.stands c.ready_place.ensures.same
    c.in_ok-parent.ensures.room

pub returns-clause-called : goal.returns-clause-called
returns-clause-called c = λ state asks.
    let there = c.requires.there state asks.stands in
    take-called (told c.args.table.now) c.args.snaps.now c.args.path.now c.in_ok-parent.field-0 c.in_ok-parent.ensures.place c.args.tick (told c.ready_place.new.table) c.issued.result.0 (File c.new.result.history)
    c.ready_place.ensures.same (ap (λ (i : SnapId). i.0) c.issued.ensures) state asks
    (rows-of-file c.new.result.history c.in_ok-parent.field-0.spot c.of_file.result c.args.tick c.new.ensures.history c.of_file.ensures)
    there.0 there.1
    (told c.replace_node-freed.new.table) c.replace_node-freed.result.1 c.replace_node-freed.result.0 c.replace_node-freed.ensures.next c.replace_node-freed.ensures.replaced
