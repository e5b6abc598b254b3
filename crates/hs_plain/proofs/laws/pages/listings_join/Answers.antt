use Rattle.hs_plain.proofs.JoinedListings.{listings-join}
use Rattle.hs_plain.proofs.laws.pages.listings_join.Goals as goal

pub returns : goal.returns
returns c = listings-join
