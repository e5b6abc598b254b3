use Rattle.std.proofs.Common.{List, Ok, Err, ◌<◌, ◌≤◌, length, refl, ap, sym, subst, ◌∙◌, arith}
use Rattle.hs_types.specs.declared.reply.Line.{Line}
use Rattle.hs_types.specs.declared.ids.Side.TheVariants.{Source}
use Rattle.distcp_sync.specs.inside.Fetching.{IsNextListed, IsQueueCall, AreAllListed, IsGotWith}
use Rattle.distcp_sync.proofs.PageChains.{read_none}
use Rattle.distcp_sync.proofs.Gots.{got_so, got_want, got_first, err_so}
use Rattle.distcp_sync.proofs.QueueSteps.{listed_more, one_longer, listed_ended, listed_all}
use Rattle.distcp_sync.proofs.fetching.fetch_listings.Goals as goal

pub returns-in_default-clause-got : goal.returns-in_default-clause-got
returns-in_default-clause-got g c =
    let old = g.L.NameLink.known c.args.source.now in
    got_want Source (IsQueueCall (length old.seen) old.seen c.args.to c.args.page c.args.lines.now) (AreAllListed (length old.seen) old.seen c.args.to c.args.lines.now) old old c.args.looks.now.items c.args.looks.now.items refl (read_none old old refl)

pub returns-in_default-first_ids-clause-got : goal.returns-in_default-first_ids-clause-got
returns-in_default-first_ids-clause-got g c =
    let old = g.L.NameLink.known c.args.source.now in
    got_want Source (IsQueueCall (length old.seen) old.seen c.args.to c.args.page c.args.lines.now) (AreAllListed (length old.seen) old.seen c.args.to c.args.lines.now) old old c.args.looks.now.items c.args.looks.now.items refl (read_none old old refl)

pub returns-then-len-ge-MOST_LISTINGS-clause-got : goal.returns-then-len-ge-MOST_LISTINGS-clause-got
returns-then-len-ge-MOST_LISTINGS-clause-got g c =
    let old = g.L.NameLink.known c.args.source.now in
    let now = g.L.NameLink.known c.loop-alloc.source in
    got_want Source (IsQueueCall (length old.seen) now.seen c.args.to c.args.page c.args.lines.now) (AreAllListed (length old.seen) now.seen c.args.to c.args.lines.now) old now c.args.looks.now.items c.loop-alloc.looks.items (ap (λ looks. looks.items) c.loop-alloc.invariant.looks) c.loop-alloc.invariant.listed.read

pub loop-alloc-smaller : goal.loop-alloc-smaller
loop-alloc-smaller g c =
    let old = g.L.NameLink.known c.args.source.now in
    let now = g.L.NameLink.known c.loop-alloc.source in
    let new = g.L.NameLink.known c.list_next.new.source in
    let less : length c.loop-alloc.listings.items < length c.loop-alloc.ids.items = omega (arith, c.len.ensures, c.len-in-loop-alloc.ensures, c.loop-alloc.listings.ok.0, c.loop-alloc.ids.ok.0, c.loop-alloc-test.true) in
    let next : IsNextListed c.args.to c.args.page c.args.lines.now now new c.loop-alloc.ids.items c.list_next.new.ids.items c.loop-alloc.listings.items c.list_next.new.listings.items c.loop-alloc.looks.items c.list_next.new.looks.items (Ok tt) =
    subst (λ (lines : List Line). IsNextListed c.args.to c.args.page lines now new c.loop-alloc.ids.items c.list_next.new.ids.items c.loop-alloc.listings.items c.list_next.new.listings.items c.loop-alloc.looks.items c.list_next.new.looks.items (Ok tt))
    c.in-Ok.ensures c.in_ok-list_next.ensures.listed in
    let longer = one_longer old now new c.args.to c.args.page c.args.lines.now c.loop-alloc.ids.items c.list_next.new.ids.items c.loop-alloc.listings.items c.list_next.new.listings.items
    c.loop-alloc.looks.items c.list_next.new.looks.items c.loop-alloc.invariant.listed less next in
    omega (arith, longer, c.len-in-loop-alloc-2.ensures, c.loop-alloc.listings.ok.0, c.if-len-ge-MOST_LISTINGS.false)

pub loop-alloc-preserved : goal.loop-alloc-preserved
loop-alloc-preserved g c =
    let old = g.L.NameLink.known c.args.source.now in
    let now = g.L.NameLink.known c.loop-alloc.source in
    let new = g.L.NameLink.known c.list_next.new.source in
    let less : length c.loop-alloc.listings.items < length c.loop-alloc.ids.items = omega (arith, c.len.ensures, c.len-in-loop-alloc.ensures, c.loop-alloc.listings.ok.0, c.loop-alloc.ids.ok.0, c.loop-alloc-test.true) in
    let next : IsNextListed c.args.to c.args.page c.args.lines.now now new c.loop-alloc.ids.items c.list_next.new.ids.items c.loop-alloc.listings.items c.list_next.new.listings.items c.loop-alloc.looks.items c.list_next.new.looks.items (Ok tt) =
    subst (λ (lines : List Line). IsNextListed c.args.to c.args.page lines now new c.loop-alloc.ids.items c.list_next.new.ids.items c.loop-alloc.listings.items c.list_next.new.listings.items c.loop-alloc.looks.items c.list_next.new.looks.items (Ok tt))
    c.in-Ok.ensures c.in_ok-list_next.ensures.listed in
    record {
      number = c.list_next.ensures.number ∙ c.loop-alloc.invariant.number;
      alone = c.list_next.ensures.alone ∙ c.loop-alloc.invariant.alone;
      stays = g.met.L.NameLink.stays_then c.args.source.now c.loop-alloc.source c.list_next.new.source c.loop-alloc.invariant.stays c.list_next.ensures.stays;
      looks = c.in_ok-list_next.ensures.same ∙ c.loop-alloc.invariant.looks;
      listed = listed_more old now new c.args.to c.args.page c.args.lines.now c.loop-alloc.ids.items c.list_next.new.ids.items c.loop-alloc.listings.items c.list_next.new.listings.items
          c.loop-alloc.looks.items c.list_next.new.looks.items c.loop-alloc.invariant.listed less next;
    }

pub returns-in_err-list_next-clause-got : goal.returns-in_err-list_next-clause-got
returns-in_err-list_next-clause-got g c =
    let old = g.L.NameLink.known c.args.source.now in
    let now = g.L.NameLink.known c.loop-alloc.source in
    let new = g.L.NameLink.known c.list_next.new.source in
    let less : length c.loop-alloc.listings.items < length c.loop-alloc.ids.items = omega (arith, c.len.ensures, c.len-in-loop-alloc.ensures, c.loop-alloc.listings.ok.0, c.loop-alloc.ids.ok.0, c.loop-alloc-test.true) in
    let next : IsNextListed c.args.to c.args.page c.args.lines.now now new c.loop-alloc.ids.items c.list_next.new.ids.items c.loop-alloc.listings.items c.list_next.new.listings.items c.loop-alloc.looks.items c.list_next.new.looks.items (Err c.in_err-list_next.field-0.0) =
    subst (λ (lines : List Line). IsNextListed c.args.to c.args.page lines now new c.loop-alloc.ids.items c.list_next.new.ids.items c.loop-alloc.listings.items c.list_next.new.listings.items c.loop-alloc.looks.items c.list_next.new.looks.items (Err c.in_err-list_next.field-0.0))
    c.in-Ok.ensures c.in_err-list_next.ensures.listed in
    let asked = (IsQueueCall (length old.seen) new.seen c.args.to c.args.page c.args.lines.now) in
    let all = (AreAllListed (length old.seen) new.seen c.args.to c.args.lines.now) in
    err_so c.from_residual.result c.in_err-list_next.field-0.0 (IsGotWith Source asked all old new c.args.looks.now.items c.list_next.new.looks.items) c.from_residual.ensures.1
    (got_first Source asked all old new c.args.looks.now.items c.loop-alloc.looks.items c.list_next.new.looks.items _ (ap (λ looks. looks.items) c.loop-alloc.invariant.looks)
    (listed_ended old now new c.args.to c.args.page c.args.lines.now c.loop-alloc.ids.items c.list_next.new.ids.items c.loop-alloc.listings.items c.list_next.new.listings.items
    c.loop-alloc.looks.items c.list_next.new.looks.items c.loop-alloc.invariant.listed less all c.in_err-list_next.field-0.0 next))

pub returns-clause-got : goal.returns-clause-got
returns-clause-got g c =
    let old = g.L.NameLink.known c.args.source.now in
    let now = g.L.NameLink.known c.loop-alloc.source in
    let all : length c.loop-alloc.ids.items ≤ length c.loop-alloc.listings.items = omega (arith, c.len.ensures, c.len-in-loop-alloc.ensures, c.loop-alloc.listings.ok.0, c.loop-alloc.ids.ok.0, c.loop-alloc-test.false) in
    got_so Source (IsQueueCall (length old.seen) now.seen c.args.to c.args.page c.args.lines.now) (AreAllListed (length old.seen) now.seen c.args.to c.args.lines.now) old now c.args.looks.now.items c.loop-alloc.looks.items (ap (λ looks. looks.items) c.loop-alloc.invariant.looks) c.loop-alloc.invariant.listed.read c.of-2.result
    (subst (AreAllListed (length old.seen) now.seen c.args.to c.args.lines.now) (sym c.of-2.ensures) (listed_all old now c.args.to c.args.lines.now c.loop-alloc.ids.items c.loop-alloc.listings.items c.loop-alloc.invariant.listed all))
