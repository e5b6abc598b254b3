use Rattle.paged_listing.proofs.Cursors.{cursor_ok}
use Rattle.paged_listing.proofs.listing.list_next.Goals as goal

pub returns : goal.returns
returns c = λ state all.
    cursor_ok state c.args.cursor.now c.args.size c.stands_at.result c.page_at.result (c.stands_at.ensures state all) all.valid c.in_ok-stands_at.was
    (λ there. c.page_at.ensures state all there)
