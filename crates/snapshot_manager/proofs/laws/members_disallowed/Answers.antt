use Rattle.snapshot_manager.proofs.MemberLemmas.{disallowed_kept}
use Rattle.snapshot_manager.proofs.laws.members_disallowed.Goals as goal

pub returns : goal.returns
returns c = disallowed_kept
