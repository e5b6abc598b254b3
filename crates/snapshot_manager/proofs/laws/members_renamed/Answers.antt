use Rattle.snapshot_manager.proofs.MemberLemmas.{renamed_there}
use Rattle.snapshot_manager.proofs.laws.members_renamed.Goals as goal

pub returns : goal.returns
returns c = renamed_there
