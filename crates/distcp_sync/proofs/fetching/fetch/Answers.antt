use Rattle.distcp_sync.specs.inside.Trace.{IsFetchedWith}
use Rattle.distcp_sync.proofs.Gots.{err_so}
use Rattle.distcp_sync.proofs.FetchedParts.{lines_ended, base_ended, root_ended, listings_ended, all_fetched}
use Rattle.distcp_sync.proofs.fetching.fetch.Goals as goal

pub returns-in_err-lines-clause-fetched : goal.returns-in_err-lines-clause-fetched
returns-in_err-lines-clause-fetched g c =
    let source = g.L.NameLink.known c.args.source.now in
    let reported = g.L.NameLink.known c.fetch_lines.new.source in
    let target = g.L.NameLink.known c.args.target.now in
    err_so c.from_residual.result c.in_err-lines.field-0.0 (IsFetchedWith c.args.start.now c.args.page source reported target target c.args.looks.now.items c.fetch_lines.new.looks.items) c.from_residual.ensures.1
    (lines_ended c.args.start.now c.args.page source reported target c.args.looks.now.items c.fetch_lines.new.looks.items c.in_err-lines.field-0.0 c.in_err-lines.ensures.got)

pub returns-in_err-old_names-clause-fetched : goal.returns-in_err-old_names-clause-fetched
returns-in_err-old_names-clause-fetched g c =
    let source = g.L.NameLink.known c.args.source.now in
    let reported = g.L.NameLink.known c.fetch_lines.new.source in
    let target = g.L.NameLink.known c.args.target.now in
    let target_then = g.L.NameLink.known c.fetch_names.new.link in
    err_so c.from_residual-in_err-old_names.result c.in_err-old_names.field-0.0 (IsFetchedWith c.args.start.now c.args.page source reported target target_then c.args.looks.now.items c.fetch_names.new.looks.items) c.from_residual-in_err-old_names.ensures.1
    (base_ended c.args.start.now c.args.page source reported target c.args.looks.now.items c.fetch_lines.new.looks.items target_then c.fetch_names.new.looks.items c.in_ok-lines.lines c.in_ok-lines.ensures.got c.in_err-old_names.field-0.0 c.in_err-old_names.ensures.got)

pub returns-in_err-new_names-clause-fetched : goal.returns-in_err-new_names-clause-fetched
returns-in_err-new_names-clause-fetched g c =
    let source = g.L.NameLink.known c.args.source.now in
    let reported = g.L.NameLink.known c.fetch_lines.new.source in
    let target = g.L.NameLink.known c.args.target.now in
    let target_then = g.L.NameLink.known c.fetch_names.new.link in
    let named = g.L.NameLink.known c.fetch_names-2.new.link in
    err_so c.from_residual-in_err-new_names.result c.in_err-new_names.field-0.0 (IsFetchedWith c.args.start.now c.args.page source named target target_then c.args.looks.now.items c.fetch_names-2.new.looks.items) c.from_residual-in_err-new_names.ensures.1
    (root_ended c.args.start.now c.args.page source reported target c.args.looks.now.items c.fetch_lines.new.looks.items target_then c.fetch_names.new.looks.items c.in_ok-lines.lines c.in_ok-lines.ensures.got named c.fetch_names-2.new.looks.items c.in_ok-old_names.old_names c.in_ok-old_names.ensures.got c.in_err-new_names.field-0.0 c.in_err-new_names.ensures.got)

pub returns-in_err-listings-clause-stays : goal.returns-in_err-listings-clause-stays
returns-in_err-listings-clause-stays g c = (
  g.met.L.NameLink.stays_then c.args.source.now c.fetch_lines.new.source c.fetch_listings.new.source c.fetch_lines.ensures.stays
      (g.met.L.NameLink.stays_then c.fetch_lines.new.source c.fetch_names-2.new.link c.fetch_listings.new.source c.fetch_names-2.ensures.stays c.fetch_listings.ensures.stays),
  c.fetch_names.ensures.stays,
)

pub returns-in_err-listings-clause-fetched : goal.returns-in_err-listings-clause-fetched
returns-in_err-listings-clause-fetched g c =
    let source = g.L.NameLink.known c.args.source.now in
    let reported = g.L.NameLink.known c.fetch_lines.new.source in
    let target = g.L.NameLink.known c.args.target.now in
    let target_then = g.L.NameLink.known c.fetch_names.new.link in
    let named = g.L.NameLink.known c.fetch_names-2.new.link in
    let last = g.L.NameLink.known c.fetch_listings.new.source in
    err_so c.from_residual-in_err-listings.result c.in_err-listings.field-0.0 (IsFetchedWith c.args.start.now c.args.page source last target target_then c.args.looks.now.items c.fetch_listings.new.looks.items) c.from_residual-in_err-listings.ensures.1
    (listings_ended c.args.start.now c.args.page source reported target c.args.looks.now.items c.fetch_lines.new.looks.items target_then c.fetch_names.new.looks.items c.in_ok-lines.lines c.in_ok-lines.ensures.got named c.fetch_names-2.new.looks.items c.in_ok-old_names.old_names c.in_ok-old_names.ensures.got
    last c.fetch_listings.new.looks.items c.in_ok-new_names.new_names c.in_ok-new_names.ensures.got c.items.result.now c.items.ensures c.in_err-listings.field-0.0 c.in_err-listings.ensures.got)

pub returns-clause-stays : goal.returns-clause-stays
returns-clause-stays g c = (
  g.met.L.NameLink.stays_then c.args.source.now c.fetch_lines.new.source c.fetch_listings.new.source c.fetch_lines.ensures.stays
      (g.met.L.NameLink.stays_then c.fetch_lines.new.source c.fetch_names-2.new.link c.fetch_listings.new.source c.fetch_names-2.ensures.stays c.fetch_listings.ensures.stays),
  c.fetch_names.ensures.stays,
)

pub returns-clause-fetched : goal.returns-clause-fetched
returns-clause-fetched g c =
    let source = g.L.NameLink.known c.args.source.now in
    let reported = g.L.NameLink.known c.fetch_lines.new.source in
    let target = g.L.NameLink.known c.args.target.now in
    let target_then = g.L.NameLink.known c.fetch_names.new.link in
    let named = g.L.NameLink.known c.fetch_names-2.new.link in
    let last = g.L.NameLink.known c.fetch_listings.new.source in
    all_fetched c.args.start.now c.args.page source reported target c.args.looks.now.items c.fetch_lines.new.looks.items target_then c.fetch_names.new.looks.items c.in_ok-lines.lines c.in_ok-lines.ensures.got named c.fetch_names-2.new.looks.items c.in_ok-old_names.old_names c.in_ok-old_names.ensures.got
    last c.fetch_listings.new.looks.items c.in_ok-new_names.new_names c.in_ok-new_names.ensures.got c.items.result.now c.items.ensures c.in_ok-listings.listings c.in_ok-listings.ensures.got
