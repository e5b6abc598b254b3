use Rattle.plan_laws.proofs.Whole.{sync-goes, sync-equal}
use Rattle.plan_laws.proofs.sync_leads.Goals as goal

pub returns : goal.returns
returns c = record { goes = sync-goes; equal = sync-equal }
