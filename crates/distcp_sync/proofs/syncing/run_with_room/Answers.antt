use Rattle.std.proofs.Common.{Result}
use Rattle.distcp_sync.specs.declared.answer.SyncAnswer.{SyncAnswer}
use Rattle.distcp_sync.specs.inside.Ran.{report_of}
use Rattle.distcp_sync.specs.inside.Trace.{IsRun}
use Rattle.distcp_sync.proofs.Running.{err_from, run_unplanned, run_carried}
use Rattle.distcp_sync.proofs.syncing.run_with_room.Goals as goal

pub returns-in_err-plan-clause-ran : goal.returns-in_err-plan-clause-ran
returns-in_err-plan-clause-ran g c =
    let source = g.L.NameLink.known c.args.source.now in
    let source_now = g.L.NameLink.known c.begin.new.source in
    let source_then = g.L.NameLink.known c.planned.new.source in
    let target = g.L.NameLink.known c.args.target.now in
    let target_now = g.L.NameLink.known c.begin.new.target in
    let target_then = g.L.NameLink.known c.planned.new.target in
    let answer = c.in_err-plan.field-0.0 in
    err_from (λ (result : Result (Unit {0}) SyncAnswer). IsRun c.args.job.now source source_then target target_then (report_of result c.args.moves.now.items c.args.copies.now.items c.planned.new.looks.items)) c.from_residual-in_err-plan.result answer c.from_residual-in_err-plan.ensures.1
    (run_unplanned c.args.job.now source source_then target target_then c.args.moves.now.items c.args.copies.now.items c.in_ok-start.start source_now target_now c.begin.new.looks.items c.in_ok-start.ensures.begun
    c.planned.new.looks.items answer c.requires.no_moves c.requires.no_copies c.in_err-plan.ensures.plan)

pub returns-clause-ran : goal.returns-clause-ran
returns-clause-ran g c =
    let source = g.L.NameLink.known c.args.source.now in
    let source_now = g.L.NameLink.known c.begin.new.source in
    let source_read = g.L.NameLink.known c.planned.new.source in
    let source_then = g.L.NameLink.known c.carry.new.source in
    let target = g.L.NameLink.known c.args.target.now in
    let target_now = g.L.NameLink.known c.begin.new.target in
    let target_read = g.L.NameLink.known c.planned.new.target in
    let target_then = g.L.NameLink.known c.carry.new.target in
    run_carried c.args.job.now source source_then target target_then c.carry.new.moves.items c.carry.new.copies.items c.in_ok-start.start source_now target_now c.begin.new.looks.items c.in_ok-start.ensures.begun
    c.planned.new.looks.items c.carry.new.looks.items c.in_ok-plan.plan source_read target_read c.carry.result c.in_ok-plan.ensures.plan c.carry.ensures.carried
