use Rattle.std.proofs.Common.{◌∙◌}
use Rattle.page_join.specs.Paging.{AreCutOff}
use Rattle.page_join.specs.inside.Asking.{AreBegun}
use Rattle.page_join.proofs.Asked.{call_next, cut_later, on_err_all, under_way}
use Rattle.page_join.proofs.paging.ask_pages.Goals as goal

pub returns-in_err-next-clause-cut_off : goal.returns-in_err-next-clause-cut_off
returns-in_err-next-clause-cut_off g c =
    let old = g.L.NameLink.known c.args.link.now in
    let now = g.L.NameLink.known c.loop-next.link in
    let new = g.L.NameLink.known c.ask_one.new.link in
    let begun : AreBegun c.args.paging old now c.args.begin c.loop-next.replies.items c.in-Some.call =
    call_next c.args.paging old now c.args.begin c.in-Some.call c.loop-next.replies.items c.loop-next.next c.in-Some.is c.loop-next.invariant.pages in
    on_err_all c.from_residual.result (AreCutOff c.args.paging old new c.args.begin)
    (cut_later c.args.paging old now new c.args.begin c.in-Some.call c.loop-next.replies.items c.loop-next.replies.items begun c.in_err-next.ensures.cut_off)

pub loop-next-preserved : goal.loop-next-preserved
loop-next-preserved g c =
    let old = g.L.NameLink.known c.args.link.now in
    let now = g.L.NameLink.known c.loop-next.link in
    let new = g.L.NameLink.known c.ask_one.new.link in
    let begun : AreBegun c.args.paging old now c.args.begin c.loop-next.replies.items c.in-Some.call =
    call_next c.args.paging old now c.args.begin c.in-Some.call c.loop-next.replies.items c.loop-next.next c.in-Some.is c.loop-next.invariant.pages in
    record {
      number = c.ask_one.ensures.number ∙ c.loop-next.invariant.number;
      alone = c.ask_one.ensures.alone ∙ c.loop-next.invariant.alone;
      stays = g.met.L.NameLink.stays_then c.args.link.now c.loop-next.link c.ask_one.new.link c.loop-next.invariant.stays c.ask_one.ensures.stays;
      pages = under_way c.args.paging old now new c.args.begin c.in-Some.call c.loop-next.replies.items c.ask_one.new.replies.items begun c.in_ok-next.next c.in_ok-next.ensures.asked;
    }
