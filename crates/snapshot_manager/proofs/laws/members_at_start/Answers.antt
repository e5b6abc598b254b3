use Rattle.snapshot_manager.proofs.MemberLemmas.{at_start}
use Rattle.snapshot_manager.proofs.laws.members_at_start.Goals as goal

pub returns : goal.returns
returns c = at_start
