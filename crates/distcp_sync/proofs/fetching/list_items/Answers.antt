use Rattle.std.proofs.Common.{None}
use Rattle.hs_types.specs.declared.call.Call.TheVariants as calls
use Rattle.hs_types.specs.declared.call.Place.TheVariants as places
use Rattle.page_join.specs.declared.paging.Paging.TheVariants.{Items}
use Rattle.distcp_sync.specs.inside.Fetching.{IsListCall}
use Rattle.distcp_sync.proofs.PageContents.{cut_read, list_joined}
use Rattle.distcp_sync.proofs.fetching.list_items.Goals as goal

pub returns-in_err-replies-clause-read : goal.returns-in_err-replies-clause-read
returns-in_err-replies-clause-read g c =
    let place = places.Frozen c.args.dir c.args.snap in
    cut_read (IsListCall place c.args.page) _ (Items c.args.page) (g.L.NameLink.known c.args.link.now) (g.L.NameLink.known c.list_all.new.link) (calls.ListNext (record { place = place; after = None }) c.args.page)
    c.from_residual.result c.from_residual.ensures.0 c.in_err-replies.ensures.cut_off

pub returns-clause-read : goal.returns-clause-read
returns-clause-read g c =
    list_joined (g.L.NameLink.known c.args.link.now) (g.L.NameLink.known c.list_all.new.link) c.args.dir c.args.snap c.args.page c.in_ok-replies.replies c.in_ok-replies.ensures.listed c.joined_items.result c.joined_items.ensures
