use Rattle.std.proofs.Common.{length}
use Rattle.hs_types.specs.declared.ids.Side.TheVariants.{Source}
use Rattle.distcp_sync.specs.inside.Fetching.{begin_report, WasReported, IsReportCall}
use Rattle.distcp_sync.proofs.Gots.{got_whole, got_ended, got_wanting}
use Rattle.distcp_sync.proofs.fetching.fetch_lines.Goals as goal

pub returns-in-Ok-Whole-clause-got : goal.returns-in-Ok-Whole-clause-got
returns-in-Ok-Whole-clause-got g c =
    let old = g.L.NameLink.known c.args.source.now in
    let new = g.L.NameLink.known c.report_lines.new.source in
    got_whole Source (IsReportCall (begin_report c.args.start.now) c.args.page) (WasReported (length old.seen) new.seen (begin_report c.args.start.now)) old new c.args.looks.now.items c.report_lines.result c.in-Ok-Whole.field-0 c.in-Ok-Whole.lines c.in-Ok-Whole.is c.in-Ok-Whole.field-0-is c.report_lines.ensures.read

pub returns-in-Ok-Ended-clause-got : goal.returns-in-Ok-Ended-clause-got
returns-in-Ok-Ended-clause-got g c =
    let old = g.L.NameLink.known c.args.source.now in
    let new = g.L.NameLink.known c.report_lines.new.source in
    got_ended Source (IsReportCall (begin_report c.args.start.now) c.args.page) (WasReported (length old.seen) new.seen (begin_report c.args.start.now)) old new c.args.looks.now.items c.report_lines.result c.in-Ok-Ended.field-0 c.in-Ok-Ended.reply c.caller-caller.result c.end_at.new.looks.items c.end_at.result
    c.in-Ok-Ended.is c.in-Ok-Ended.field-0-is c.caller-caller.ensures.caller c.end_at.ensures.looks c.end_at.ensures.answer c.report_lines.ensures.read

pub returns-in-Err-clause-got : goal.returns-in-Err-clause-got
returns-in-Err-clause-got g c =
    let old = g.L.NameLink.known c.args.source.now in
    let new = g.L.NameLink.known c.report_lines.new.source in
    got_wanting Source (IsReportCall (begin_report c.args.start.now) c.args.page) (WasReported (length old.seen) new.seen (begin_report c.args.start.now)) old new c.args.looks.now.items c.report_lines.result c.in-Err.field-0 c.in-Err.is c.report_lines.ensures.read
