use Rattle.snapshot_manager.proofs.MemberLemmas.{added_last}
use Rattle.snapshot_manager.proofs.laws.members_added.Goals as goal

pub returns : goal.returns
returns c = added_last
