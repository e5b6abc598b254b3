use Rattle.distcp_sync.specs.inside.Begins.{IsFoundOrEnded}
use Rattle.distcp_sync.proofs.Beginnings.{err_at, ends_first, ends_second, both_told}
use Rattle.distcp_sync.proofs.beginning.find_start.Goals as goal

pub returns-in_err-one-clause-found : goal.returns-in_err-one-clause-found
returns-in_err-one-clause-found g c =
    let source = g.L.NameLink.known c.args.source.now in
    let source_then = g.L.NameLink.known c.ask_root.new.link in
    let target = g.L.NameLink.known c.args.target.now in
    let answer = c.in_err-one.field-0.0 in
    err_at c.from_residual.result answer (IsFoundOrEnded c.args.job.now source source_then target target c.ask_root.new.looks.items) c.from_residual.ensures.1
    (ends_first c.args.job.now source source_then target c.args.looks.now.items c.ask_root.new.looks.items answer c.requires.none c.in_err-one.ensures.asked)

pub returns-in_err-two-clause-found : goal.returns-in_err-two-clause-found
returns-in_err-two-clause-found g c =
    let source = g.L.NameLink.known c.args.source.now in
    let source_then = g.L.NameLink.known c.ask_root.new.link in
    let target = g.L.NameLink.known c.args.target.now in
    let target_then = g.L.NameLink.known c.ask_root-2.new.link in
    let looks = c.ask_root-2.new.looks.items in
    let answer = c.in_err-two.field-0.0 in
    err_at c.from_residual-in_err-two.result answer (IsFoundOrEnded c.args.job.now source source_then target target_then looks) c.from_residual-in_err-two.ensures.1
    (ends_second c.args.job.now source source_then target target_then c.args.looks.now.items c.ask_root.new.looks.items looks c.in_ok-one.one answer c.requires.none c.in_ok-one.ensures.asked c.in_err-two.ensures.asked)

pub returns-clause-found : goal.returns-clause-found
returns-clause-found g c =
    let source = g.L.NameLink.known c.args.source.now in
    let source_then = g.L.NameLink.known c.ask_root.new.link in
    let target = g.L.NameLink.known c.args.target.now in
    let target_then = g.L.NameLink.known c.ask_root-2.new.link in
    both_told c.args.job.now source source_then target target_then c.args.looks.now.items c.ask_root.new.looks.items c.ask_root-2.new.looks.items c.in_ok-one.one c.in_ok-two.two c.started.result
    c.requires.none c.in_ok-one.ensures.asked c.in_ok-two.ensures.asked c.started.ensures
