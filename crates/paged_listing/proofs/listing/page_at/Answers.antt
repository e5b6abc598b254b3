use Rattle.inode_table.specs.Kept.{told}
use Rattle.paged_listing.proofs.Chains.{tells_as}
use Rattle.paged_listing.proofs.Items.{page_there}
use Rattle.paged_listing.proofs.listing.page_at.Goals as goal

pub returns : goal.returns
returns c = λ state all there.
    tells_as c.found_page.result _ _ (page_there (told c.args.table.now) c.args.snaps.now state all c.args.cursor.now c.args.size there) c.found_page.ensures
