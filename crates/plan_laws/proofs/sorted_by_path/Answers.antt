use Rattle.plan_laws.proofs.Sorted.{listing-is, values-are}
use Rattle.plan_laws.proofs.sorted_by_path.Goals as goal

pub returns : goal.returns
returns c = record { listing = listing-is; values = values-are }
