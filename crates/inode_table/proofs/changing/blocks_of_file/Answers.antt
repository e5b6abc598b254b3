use Rattle.std.proofs.Common.{◌≡◌, ◌+◌, arith}
use Rattle.inode_table.proofs.Altering.{file-after, if-ok}
use Rattle.inode_table.proofs.changing.blocks_of_file.Goals as goal

pub returns-clause-ok : goal.returns-clause-ok
returns-clause-ok c =
    if-ok c.sum.result (λ after. after ≡ c.blocks_of_others-others.result + c.blocks_of_change-now.result) _
    (λ after is tick. file-after c.args.cover.0 tick c.args.what.now c.args.file.now.history c.args.blocks c.own_blocks-own.result c.blocks_of_others-others.result c.blocks_of_change-now.result after
    c.own_blocks-own.ensures c.blocks_of_others-others.ensures c.blocks_of_change-now.ensures is) c.sum.ensures.ok

pub returns-clause-room : goal.returns-clause-room
returns-clause-room c = λ room.
    let step = file-after c.args.cover.0 0 c.args.what.now c.args.file.now.history c.args.blocks c.own_blocks-own.result c.blocks_of_others-others.result c.blocks_of_change-now.result (c.blocks_of_others-others.result + c.blocks_of_change-now.result)
    c.own_blocks-own.ensures c.blocks_of_others-others.ensures c.blocks_of_change-now.ensures (omega arith) in
    let fits = room 0 in
    c.sum.ensures.room (omega (arith, step, fits, c.requires))
