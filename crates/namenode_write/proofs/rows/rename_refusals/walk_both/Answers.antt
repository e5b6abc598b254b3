use Rattle.std.proofs.Common.{ap, ◌∙◌}
use Rattle.namenode_write.proofs.RenameTests.{walked-so, failed}
use Rattle.namenode_write.proofs.rows.rename_refusals.walk_both.Goals as goal

pub returns-in-Err-Err-clause-walk : goal.returns-in-Err-Err-clause-walk
returns-in-Err-Err-clause-walk c snaps state all =
    ap failed c.first_of.ensures ∙ walked-so _ _ _ _ _ _ (c.live.ensures.walk snaps state all) (c.walks_above.ensures snaps state all) c.in-Err-Err.is-0 c.in-Err-Err.is-1

pub returns-in-Ok-Err-clause-walk : goal.returns-in-Ok-Err-clause-walk
returns-in-Ok-Err-clause-walk c snaps state all = walked-so _ _ _ _ _ _ (c.live.ensures.walk snaps state all) (c.walks_above.ensures snaps state all) c.in-Ok-Err.is-0 c.in-Ok-Err.is-1

pub returns-in-Err-Ok-clause-walk : goal.returns-in-Err-Ok-clause-walk
returns-in-Err-Ok-clause-walk c snaps state all = walked-so _ _ _ _ _ _ (c.live.ensures.walk snaps state all) (c.walks_above.ensures snaps state all) c.in-Err-Ok.is-0 c.in-Err-Ok.is-1
