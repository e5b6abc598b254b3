use Rattle.plan_laws.proofs.Pairs.{members-pair, live-pair}
use Rattle.plan_laws.proofs.members_are_pairs.Goals as goal

pub returns : goal.returns
returns c = record { snapshots = members-pair; live = live-pair }
