use Rattle.distcp_sync.specs.inside.Ran.{HasPlan}
use Rattle.distcp_sync.proofs.Running.{err_from, plan_unfetched, plan_fetched}
use Rattle.distcp_sync.proofs.syncing.planned.Goals as goal

pub returns-in_err-fetched-clause-plan : goal.returns-in_err-fetched-clause-plan
returns-in_err-fetched-clause-plan g c =
    let source = g.L.NameLink.known c.args.source.now in
    let read = g.L.NameLink.known c.fetch.new.source in
    let target = g.L.NameLink.known c.args.target.now in
    let seen = g.L.NameLink.known c.fetch.new.target in
    let answer = c.in_err-fetched.field-0.0 in
    err_from (HasPlan c.args.start.now c.args.job.now source read target seen c.args.looks.now.items c.fetch.new.looks.items) c.from_residual.result answer c.from_residual.ensures.1
    (plan_unfetched c.args.start.now c.args.job.now source read target seen c.args.looks.now.items c.fetch.new.looks.items answer c.in_err-fetched.ensures.fetched)

pub returns-clause-plan : goal.returns-clause-plan
returns-clause-plan g c =
    let source = g.L.NameLink.known c.args.source.now in
    let read = g.L.NameLink.known c.fetch.new.source in
    let target = g.L.NameLink.known c.args.target.now in
    let seen = g.L.NameLink.known c.fetch.new.target in
    plan_fetched c.args.start.now c.args.job.now source read target seen c.args.looks.now.items c.fetch.new.looks.items c.in_ok-fetched.fetched c.in_ok-fetched.ensures.fetched c.plan_of.result c.plan_of.ensures
