use Rattle.std.proofs.Common.{arith}
use Rattle.distcp_sync.specs.inside.Fetching.{IsNextListed}
use Rattle.distcp_sync.proofs.Gots.{err_so}
use Rattle.distcp_sync.proofs.QueueSteps.{next_err, next_ok, next_want}
use Rattle.distcp_sync.proofs.fetching.list_next.Goals as goal

pub returns-in_err-items-clause-listed : goal.returns-in_err-items-clause-listed
returns-in_err-items-clause-listed g c =
    let old = g.L.NameLink.known c.args.source.now in
    let new = g.L.NameLink.known c.fetch_items.new.link in
    err_so c.from_residual.result c.in_err-items.field-0.0 (IsNextListed c.args.to c.args.page c.args.moves.now old new c.args.ids.now.items c.args.ids.now.items c.args.listings.now.items c.args.listings.now.items c.args.looks.now.items c.fetch_items.new.looks.items) c.from_residual.ensures.1
    (next_err c.args.to c.args.page c.args.moves.now old new c.args.ids.now.items c.args.ids.now.items c.args.listings.now.items c.args.listings.now.items c.args.looks.now.items c.fetch_items.new.looks.items
    c.index-dir.result.now c.len.result (omega (arith, c.len.ensures, c.args.listings.now.ok.0)) c.index-dir.ensures c.in_err-items.field-0.0 c.in_err-items.ensures.got)

pub returns-in-Ok-clause-listed : goal.returns-in-Ok-clause-listed
returns-in-Ok-clause-listed g c =
    let old = g.L.NameLink.known c.args.source.now in
    let new = g.L.NameLink.known c.fetch_items.new.link in
    next_ok c.args.to c.args.page c.args.moves.now old new c.args.ids.now.items c.add_listing.new.ids.items c.args.listings.now.items c.add_listing.new.listings.items c.args.looks.now.items c.fetch_items.new.looks.items
    c.index-dir.result.now c.len.result (omega (arith, c.len.ensures, c.args.listings.now.ok.0)) c.index-dir.ensures
    c.in_ok-items.items c.in_ok-items.ensures.got c.in-Ok.ensures.ids c.in-Ok.ensures.listings

pub returns-in-Err-clause-listed : goal.returns-in-Err-clause-listed
returns-in-Err-clause-listed g c =
    let old = g.L.NameLink.known c.args.source.now in
    let new = g.L.NameLink.known c.fetch_items.new.link in
    next_want c.args.to c.args.page c.args.moves.now old new c.args.ids.now.items c.add_listing.new.ids.items c.args.listings.now.items c.add_listing.new.listings.items c.args.looks.now.items c.fetch_items.new.looks.items
    c.index-dir.result.now c.len.result (omega (arith, c.len.ensures, c.args.listings.now.ok.0)) c.index-dir.ensures
    c.in_ok-items.items c.in_ok-items.ensures.got
