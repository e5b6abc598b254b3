use Rattle.plan_laws.proofs.PlanJournal.{plan-ok, plan-next, plan-equal}
use Rattle.plan_laws.proofs.plan_in_journal.Goals as goal

pub returns : goal.returns
returns c = record { ok = plan-ok; next = plan-next; equal = plan-equal }
