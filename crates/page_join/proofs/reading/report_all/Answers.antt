use Rattle.std.proofs.Common.{subst}
use Rattle.hs_types.specs.declared.call.Call.{Call}
use Rattle.page_join.specs.declared.paging.Paging.TheVariants.{Lines}
use Rattle.page_join.specs.Paging.{ArePages}
use Rattle.page_join.specs.Contents.{AreReported}
use Rattle.page_join.proofs.Asked.{if_ok}
use Rattle.page_join.proofs.Contents.{are_reported}
use Rattle.page_join.proofs.reading.report_all.Goals as goal

pub returns-clause-reported : goal.returns-clause-reported
returns-clause-reported g c =
    let old = g.L.NameLink.known c.args.link.now in
    let new = g.L.NameLink.known c.ask_pages.new.link in
    if_ok c.ask_pages.result (ArePages (Lines c.args.size) old new c.first_call.result) (AreReported old new c.args.start c.args.size)
    (λ got pages. are_reported old new c.args.start c.args.size got (subst (λ (call : Call). ArePages (Lines c.args.size) old new call got) c.first_call.ensures.call pages))
    c.ask_pages.ensures.pages
