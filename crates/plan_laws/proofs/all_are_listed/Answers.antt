use Rattle.plan_laws.proofs.AllListed.{listings-listed, listings-once, listings-whole, listings-in-order, all-told}
use Rattle.plan_laws.proofs.all_are_listed.Goals as goal

pub returns : goal.returns
returns c = record { whole = listings-listed; once = listings-once; each = listings-whole; order = listings-in-order; told = all-told }
