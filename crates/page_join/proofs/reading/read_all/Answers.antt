use Rattle.std.proofs.Common.{subst}
use Rattle.hs_types.specs.declared.call.Call.{Call}
use Rattle.page_join.specs.declared.paging.Paging.TheVariants.{Bytes}
use Rattle.page_join.specs.Paging.{ArePages}
use Rattle.page_join.specs.Contents.{AreRead}
use Rattle.page_join.proofs.Asked.{if_ok}
use Rattle.page_join.proofs.Contents.{are_read}
use Rattle.page_join.proofs.reading.read_all.Goals as goal

pub returns-clause-read : goal.returns-clause-read
returns-clause-read g c =
    let old = g.L.NameLink.known c.args.link.now in
    let new = g.L.NameLink.known c.ask_pages.new.link in
    if_ok c.ask_pages.result (ArePages Bytes old new c.first_call.result) (AreRead old new c.args.start)
    (λ got pages. are_read old new c.args.start got (subst (λ (call : Call). ArePages Bytes old new call got) c.first_call.ensures.call pages))
    c.ask_pages.ensures.pages
