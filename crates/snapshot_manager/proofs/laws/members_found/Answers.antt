use Rattle.snapshot_manager.proofs.MemberLemmas.{found_by_id}
use Rattle.snapshot_manager.proofs.laws.members_found.Goals as goal

pub returns : goal.returns
returns c = λ members s id p m. found_by_id members s m id p
