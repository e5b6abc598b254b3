use Rattle.std.proofs.Common.{length}
use Rattle.hs_types.specs.declared.call.Place.TheVariants as places
use Rattle.distcp_sync.specs.inside.Fetching.{WasListed, IsListCall}
use Rattle.distcp_sync.proofs.Gots.{got_whole, got_ended, got_wanting}
use Rattle.distcp_sync.proofs.fetching.fetch_items.Goals as goal

pub returns-in-Ok-Whole-clause-got : goal.returns-in-Ok-Whole-clause-got
returns-in-Ok-Whole-clause-got g c =
    let old = g.L.NameLink.known c.args.link.now in
    let new = g.L.NameLink.known c.list_items.new.link in
    got_whole c.args.side (IsListCall (places.Frozen c.args.dir c.args.snap) c.args.page) (WasListed (length old.seen) new.seen (places.Frozen c.args.dir c.args.snap)) old new c.args.looks.now.items c.list_items.result c.in-Ok-Whole.field-0 c.in-Ok-Whole.items c.in-Ok-Whole.is c.in-Ok-Whole.field-0-is c.list_items.ensures.read

pub returns-in-Ok-Ended-clause-got : goal.returns-in-Ok-Ended-clause-got
returns-in-Ok-Ended-clause-got g c =
    let old = g.L.NameLink.known c.args.link.now in
    let new = g.L.NameLink.known c.list_items.new.link in
    got_ended c.args.side (IsListCall (places.Frozen c.args.dir c.args.snap) c.args.page) (WasListed (length old.seen) new.seen (places.Frozen c.args.dir c.args.snap)) old new c.args.looks.now.items c.list_items.result c.in-Ok-Ended.field-0 c.in-Ok-Ended.reply c.caller-caller.result c.end_at.new.looks.items c.end_at.result
    c.in-Ok-Ended.is c.in-Ok-Ended.field-0-is c.caller-caller.ensures.caller c.end_at.ensures.looks c.end_at.ensures.answer c.list_items.ensures.read

pub returns-in-Err-clause-got : goal.returns-in-Err-clause-got
returns-in-Err-clause-got g c =
    let old = g.L.NameLink.known c.args.link.now in
    let new = g.L.NameLink.known c.list_items.new.link in
    got_wanting c.args.side (IsListCall (places.Frozen c.args.dir c.args.snap) c.args.page) (WasListed (length old.seen) new.seen (places.Frozen c.args.dir c.args.snap)) old new c.args.looks.now.items c.list_items.result c.in-Err.field-0 c.in-Err.is c.list_items.ensures.read
