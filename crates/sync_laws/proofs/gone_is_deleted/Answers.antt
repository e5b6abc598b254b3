use Rattle.sync_laws.proofs.Gone.{lists-gone, reads-gone, reports-gone}
use Rattle.sync_laws.proofs.gone_is_deleted.Goals as goal

pub returns : goal.returns
returns c = record { lists = lists-gone; reads = reads-gone; reports = reports-gone }
