use Rattle.std.proofs.Common.{List, [], ◌∷◌, ◌++◌, ap, ◌∙◌}
use Rattle.hs_types.specs.declared.ids.InodeId.{InodeId}
use Rattle.namenode_write.proofs.Ready.{both-ok, prepared-one}
use Rattle.namenode_write.proofs.rows.making.prepare_seat.Goals as goal

pub returns-clause-room : goal.returns-clause-room
returns-clause-room c =
    both-ok c.prepare.result c.prepare.ensures.room c.prepare.ensures.rows
    (λ is rows. prepared-one c.args.table.now c.prepare.new.self c.args.seat.id c.args.seat.need.0 c.push.new.self (c.in_ok-push.ensures.ok ∙ ap (λ (l : List InodeId). l ++ c.args.seat.id ∷ []) c.new-ids.ensures) c.prepare.ensures.same is rows)
