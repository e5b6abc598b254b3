use Rattle.std.proofs.Common.{ℕ, ap, ◌∙◌, arith}
use Rattle.inode_table.specs.Kept.{told}
use Rattle.inode_table.specs.Numbered.{history_of}
use Rattle.namenode_write.specs.NewNodes.{next_id}
use Rattle.namenode_write.proofs.MadeCalls.{make-so, same-greatest, left-light, going-so, out-so}
use Rattle.namenode_write.proofs.NodeRoom.{out-fits, out-leaves}
use Rattle.namenode_write.proofs.rows.making_nodes.replace_node.Goals as goal

pub change_ready-requires-clause-can : goal.change_ready-requires-clause-can
change_ready-requires-clause-can c = out-so (told c.args.table.now) c.args.parent c.args.gone c.args.name c.requires.same c.requires.may.out

pub change_ready-requires-clause-room : goal.change_ready-requires-clause-room
change_ready-requires-clause-room c = out-fits 1 c.args.parent c.args.table.now c.args.gone c.args.tick c.requires.room

pub put_node-id-requires-clause-may : goal.put_node-id-requires-clause-may
put_node-id-requires-clause-may c =
    make-so (told c.args.table.now) (told c.change_ready.new.table) c.args.parent c.args.gone c.args.name (history_of c.args.rows) c.args.since.0 c.args.tick c.requires.same c.change_ready.ensures.whole c.requires.may

pub put_node-id-requires-clause-ids : goal.put_node-id-requires-clause-ids
put_node-id-requires-clause-ids c =
    let same = same-greatest (told c.args.table.now) (told c.change_ready.new.table) c.args.parent c.args.gone c.args.name (history_of c.args.rows) c.args.since.0 c.args.tick c.requires.same c.change_ready.ensures.whole in
    let ids = c.requires.ids in omega (arith, same, ids)

pub put_node-id-requires-clause-bound : goal.put_node-id-requires-clause-bound
put_node-id-requires-clause-bound c =
    left-light (told c.args.table.now) (told c.change_ready.new.table) c.args.parent c.args.gone c.args.name (history_of c.args.rows) c.args.since.0 c.args.tick c.requires.same c.change_ready.ensures.whole c.requires.left

pub put_node-id-requires-clause-room : goal.put_node-id-requires-clause-room
put_node-id-requires-clause-room c = out-leaves 1 c.args.parent c.args.table.now c.args.gone c.args.tick c.requires.room c.change_ready.new.table c.change_ready.ensures

pub returns-clause-next : goal.returns-clause-next
returns-clause-next c =
    c.put_node-id.ensures.next
    ∙ ap (λ (n : ℕ). next_id n) (same-greatest (told c.args.table.now) (told c.change_ready.new.table) c.args.parent c.args.gone c.args.name (history_of c.args.rows) c.args.since.0 c.args.tick c.requires.same c.change_ready.ensures.whole)

pub returns-clause-replaced : goal.returns-clause-replaced
returns-clause-replaced c =
    going-so (told c.args.table.now) (told c.change_ready.new.table) c.args.parent c.args.gone c.args.name (history_of c.args.rows) c.args.since.0 c.args.tick c.requires.same c.change_ready.ensures.whole
    (told c.release_ready.new.table) (told c.put_node-id.new.table) c.release_ready.result c.put_node-id.ensures.entered c.release_ready.ensures
