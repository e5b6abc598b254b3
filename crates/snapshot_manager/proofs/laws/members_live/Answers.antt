use Rattle.snapshot_manager.proofs.MemberLemmas.{live_ids}
use Rattle.snapshot_manager.proofs.laws.members_live.Goals as goal

pub returns : goal.returns
returns c = λ members s low high p m. live_ids members s m low high p
