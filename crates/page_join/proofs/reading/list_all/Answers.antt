use Rattle.std.proofs.Common.{subst}
use Rattle.hs_types.specs.declared.call.Call.{Call}
use Rattle.page_join.specs.declared.paging.Paging.TheVariants.{Items}
use Rattle.page_join.specs.Paging.{ArePages}
use Rattle.page_join.specs.Contents.{AreListed}
use Rattle.page_join.proofs.Asked.{if_ok}
use Rattle.page_join.proofs.Contents.{are_listed}
use Rattle.page_join.proofs.reading.list_all.Goals as goal

pub returns-clause-listed : goal.returns-clause-listed
returns-clause-listed g c =
    let old = g.L.NameLink.known c.args.link.now in
    let new = g.L.NameLink.known c.ask_pages.new.link in
    if_ok c.ask_pages.result (ArePages (Items c.args.size) old new c.first_call.result) (AreListed old new c.args.start c.args.size)
    (λ got pages. are_listed old new c.args.start c.args.size got c.first_call.ensures.above (subst (λ (call : Call). ArePages (Items c.args.size) old new call got) c.first_call.ensures.call pages))
    c.ask_pages.ensures.pages
