use Rattle.std.proofs.Common.{refl, length}
use Rattle.hs_types.specs.declared.call.Place.TheVariants as places
use Rattle.distcp_sync.specs.inside.Fetching.{WasListed, WasNamed, IsListCall, IsGotWith}
use Rattle.distcp_sync.proofs.PageChains.{read_none}
use Rattle.distcp_sync.proofs.Gots.{HasGot, has_got, got_behind, got_so, got_want, err_so}
use Rattle.distcp_sync.proofs.fetching.fetch_names.Goals as goal

pub returns-in_err-items-clause-got : goal.returns-in_err-items-clause-got
returns-in_err-items-clause-got g c =
    let old = g.L.NameLink.known c.args.link.now in
    let new = g.L.NameLink.known c.fetch_items.new.link in
    let place = places.Frozen c.args.dir c.args.snap in
    let named = WasNamed (length old.seen) new.seen place in
    err_so c.from_residual.result c.in_err-items.field-0.0 (IsGotWith c.args.side (IsListCall place c.args.page) named old new c.args.looks.now.items c.fetch_items.new.looks.items) c.from_residual.ensures.1
    (got_behind c.args.side (IsListCall place c.args.page) (WasListed (length old.seen) new.seen place) old new c.args.looks.now.items c.fetch_items.new.looks.items
    old (IsListCall place c.args.page) named (read_none old old refl) (λ call asks. asks) c.in_err-items.field-0.0 c.in_err-items.ensures.got)

pub returns-in-Ok-clause-got : goal.returns-in-Ok-clause-got
returns-in-Ok-clause-got g c =
    let old = g.L.NameLink.known c.args.link.now in
    let new = g.L.NameLink.known c.fetch_items.new.link in
    let place = places.Frozen c.args.dir c.args.snap in
    let listed = WasListed (length old.seen) new.seen place in
    let got : HasGot listed old new c.args.looks.now.items c.fetch_items.new.looks.items c.in_ok-items.items =
    has_got c.args.side (IsListCall place c.args.page) listed old new c.args.looks.now.items c.fetch_items.new.looks.items c.in_ok-items.items c.in_ok-items.ensures.got in
    got_so c.args.side (IsListCall place c.args.page) (WasNamed (length old.seen) new.seen place) old new c.args.looks.now.items c.fetch_items.new.looks.items got.same got.read c.in-Ok.names
    (record { items = c.in_ok-items.items; listed = got.is; names_are = c.in-Ok.ensures })

pub returns-in-Err-clause-got : goal.returns-in-Err-clause-got
returns-in-Err-clause-got g c =
    let old = g.L.NameLink.known c.args.link.now in
    let new = g.L.NameLink.known c.fetch_items.new.link in
    let place = places.Frozen c.args.dir c.args.snap in
    let listed = WasListed (length old.seen) new.seen place in
    let got : HasGot listed old new c.args.looks.now.items c.fetch_items.new.looks.items c.in_ok-items.items =
    has_got c.args.side (IsListCall place c.args.page) listed old new c.args.looks.now.items c.fetch_items.new.looks.items c.in_ok-items.items c.in_ok-items.ensures.got in
    got_want c.args.side (IsListCall place c.args.page) (WasNamed (length old.seen) new.seen place) old new c.args.looks.now.items c.fetch_items.new.looks.items got.same got.read
