use Rattle.snapshot_manager.proofs.MemberLemmas.{allowed_kept}
use Rattle.snapshot_manager.proofs.laws.members_allowed.Goals as goal

pub returns : goal.returns
returns c = allowed_kept
