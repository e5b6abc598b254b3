use Rattle.inode_table.specs.Kept.{told}
use Rattle.namenode_write.specs.Rows.{all_of}
use Rattle.namenode_write.proofs.MadeDone.{taken-so, free-so, put-new}
use Rattle.namenode_write.proofs.rows.making_nodes.put_file.Goals as goal

pub put_over-requires-clause-there : goal.put_over-requires-clause-there
put_over-requires-clause-there c = taken-so (told c.args.table.now) c.args.snaps.now c.args.path.now c.node_there.result c.is_some.result c.node_there.ensures c.is_some.ensures c.if-is_some.true

pub new_file-requires-clause-free : goal.new_file-requires-clause-free
new_file-requires-clause-free c = free-so (told c.args.table.now) c.args.snaps.now c.args.path.now c.node_there.result c.is_some.result c.node_there.ensures c.is_some.ensures c.if-is_some.false

pub returns-else-is_some-clause-put : goal.returns-else-is_some-clause-put
returns-else-is_some-clause-put c =
    put-new (told c.args.table.now) (told c.new_file.new.table) c.args.snaps.now (all_of c.args.waiting.now.items) c.args.path.now c.args.tick c.new_file.result c.new_file.ensures.called
