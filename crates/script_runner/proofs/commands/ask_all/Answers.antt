use Rattle.std.proofs.Common.{sym, subst}
use Rattle.page_join.specs.declared.starts.ListStart.TheVariants as list
use Rattle.page_join.specs.declared.starts.ReadStart.TheVariants as read
use Rattle.page_join.specs.declared.starts.ReportStart.TheVariants as report
use Rattle.page_join.specs.Contents.{AreListed, AreRead, AreReported}
use Rattle.script_text.specs.declared.command.Pages.{Pages}
use Rattle.script_runner.specs.Commands.{AreAll, AreAsked}
use Rattle.script_runner.proofs.Asking.{if_ok, bytes_asked, items_asked, lines_asked}
use Rattle.script_runner.proofs.commands.ask_all.Goals as goal

pub returns-in-File-clause-asked : goal.returns-in-File-clause-asked
returns-in-File-clause-asked g c =
    let old = g.L.NameLink.known c.args.link.now in
    let new = g.L.NameLink.known c.read_all.new.link in
    if_ok c.read_all.result (AreRead old new (read.At c.in-File.path)) (AreAsked old new (AreAll c.args.page c.args.pages))
    (λ replies all. subst (λ (what : Pages). AreAsked old new (AreAll c.args.page what) replies) (sym c.in-File.is) (bytes_asked c.args.page c.in-File.path old new replies all.pages))
    c.read_all.ensures.read

pub returns-in-Listing-clause-asked : goal.returns-in-Listing-clause-asked
returns-in-Listing-clause-asked g c =
    let old = g.L.NameLink.known c.args.link.now in
    let new = g.L.NameLink.known c.list_all.new.link in
    if_ok c.list_all.result (AreListed old new (list.At c.in-Listing.path) c.args.page) (AreAsked old new (AreAll c.args.page c.args.pages))
    (λ replies all. subst (λ (what : Pages). AreAsked old new (AreAll c.args.page what) replies) (sym c.in-Listing.is) (items_asked c.args.page c.in-Listing.path old new replies all.pages))
    c.list_all.ensures.listed

pub returns-in-Report-clause-asked : goal.returns-in-Report-clause-asked
returns-in-Report-clause-asked g c =
    let old = g.L.NameLink.known c.args.link.now in
    let new = g.L.NameLink.known c.report_all.new.link in
    if_ok c.report_all.result (AreReported old new (report.At c.in-Report.path c.in-Report.from c.in-Report.to) c.args.page) (AreAsked old new (AreAll c.args.page c.args.pages))
    (λ replies all. subst (λ (what : Pages). AreAsked old new (AreAll c.args.page what) replies) (sym c.in-Report.is) (lines_asked c.args.page c.in-Report.path c.in-Report.from c.in-Report.to old new replies all.pages))
    c.report_all.ensures.reported
