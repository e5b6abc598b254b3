use Rattle.snapshot_manager.proofs.MemberLemmas.{removed_out}
use Rattle.snapshot_manager.proofs.laws.members_removed.Goals as goal

pub returns : goal.returns
returns c = removed_out
