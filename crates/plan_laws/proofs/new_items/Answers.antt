use Rattle.plan_laws.proofs.NewItems.{created-at, renamed-id}
use Rattle.plan_laws.proofs.new_items.Goals as goal

pub returns : goal.returns
returns c = record { created = created-at; renamed = renamed-id }
