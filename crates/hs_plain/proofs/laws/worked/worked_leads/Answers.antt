use Rattle.hs_plain.proofs.WorkedSyncs.{swapped_lead, created_lead}
use Rattle.hs_plain.proofs.laws.worked.worked_leads.Goals as goal

pub returns : goal.returns
returns c = record { moved = swapped_lead; created = created_lead }
