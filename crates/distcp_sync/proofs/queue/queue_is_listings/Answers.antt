use Rattle.distcp_sync.proofs.Queued.{queue_is_listings}
use Rattle.distcp_sync.proofs.queue.queue_is_listings.Goals as goal

pub returns : goal.returns
returns c = queue_is_listings
