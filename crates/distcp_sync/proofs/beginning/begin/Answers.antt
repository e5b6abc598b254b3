use Rattle.distcp_sync.specs.inside.Trace.{IsBegun}
use Rattle.distcp_sync.proofs.Beginnings.{err_at, ends_third, begins_here}
use Rattle.distcp_sync.proofs.beginning.begin.Goals as goal

pub returns-in_err-ask_changes-clause-begun : goal.returns-in_err-ask_changes-clause-begun
returns-in_err-ask_changes-clause-begun g c =
    let source = g.L.NameLink.known c.args.source.now in
    let source_then = g.L.NameLink.known c.find_start.new.source in
    let target = g.L.NameLink.known c.args.target.now in
    let target_now = g.L.NameLink.known c.find_start.new.target in
    let target_then = g.L.NameLink.known c.ask_changes.new.target in
    let looks = c.ask_changes.new.looks.items in
    let answer = c.in_err-ask_changes.field-0.0 in
    err_at c.from_residual-in_err-ask_changes.result answer (IsBegun c.args.job.now source source_then target target_then looks) c.from_residual-in_err-ask_changes.ensures.1
    (ends_third c.args.job.now source source_then target target_now target_then c.find_start.new.looks.items looks c.in_ok-start.start c.in_ok-start.ensures.found answer c.in_err-ask_changes.ensures.compared)

pub returns-clause-begun : goal.returns-clause-begun
returns-clause-begun g c =
    let source = g.L.NameLink.known c.args.source.now in
    let source_then = g.L.NameLink.known c.find_start.new.source in
    let target = g.L.NameLink.known c.args.target.now in
    let target_now = g.L.NameLink.known c.find_start.new.target in
    let target_then = g.L.NameLink.known c.ask_changes.new.target in
    begins_here c.args.job.now source source_then target target_now target_then c.find_start.new.looks.items c.ask_changes.new.looks.items c.in_ok-start.start c.in_ok-start.ensures.found c.in_ok-ask_changes.ensures.compared
