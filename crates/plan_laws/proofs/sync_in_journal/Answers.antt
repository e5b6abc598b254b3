use Rattle.plan_laws.proofs.Journal.{all-ok, next-ok, ends-equal}
use Rattle.plan_laws.proofs.sync_in_journal.Goals as goal

pub returns : goal.returns
returns c = record { ok = all-ok; next = next-ok; equal = ends-equal }
