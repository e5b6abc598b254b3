use Rattle.std.proofs.Common.{refl}
use Rattle.hs_types.specs.declared.call.Call.TheVariants as calls
use Rattle.page_join.specs.declared.paging.Paging.TheVariants.{Lines}
use Rattle.distcp_sync.specs.inside.Fetching.{begin_report, IsReportCall}
use Rattle.distcp_sync.proofs.PageContents.{cut_read, report_joined}
use Rattle.distcp_sync.proofs.fetching.report_lines.Goals as goal

pub returns-in_err-replies-clause-read : goal.returns-in_err-replies-clause-read
returns-in_err-replies-clause-read g c =
    let begun = begin_report c.args.start.now in
    cut_read (IsReportCall begun c.args.page) _ (Lines c.args.page) (g.L.NameLink.known c.args.source.now) (g.L.NameLink.known c.report_all.new.link) (calls.ReportNext begun c.args.page)
    c.from_residual.result c.from_residual.ensures.0 c.in_err-replies.ensures.cut_off

pub returns-clause-read : goal.returns-clause-read
returns-clause-read g c =
    report_joined (g.L.NameLink.known c.args.source.now) (g.L.NameLink.known c.report_all.new.link) (begin_report c.args.start.now) refl c.args.page c.in_ok-replies.replies c.in_ok-replies.ensures.reported c.joined_lines.result c.joined_lines.ensures
