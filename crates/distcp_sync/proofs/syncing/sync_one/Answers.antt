use Rattle.distcp_sync.proofs.syncing.sync_one.Goals as goal

pub returns-clause-calls : goal.returns-clause-calls
returns-clause-calls g c =
    let source = g.L.NameLink.known c.args.source.now in
    let source_then = g.L.NameLink.known c.run_sync.new.source in
    let target = g.L.NameLink.known c.args.target.now in
    let target_then = g.L.NameLink.known c.run_sync.new.target in
    (c.runs_are_told.ensures c.args.job.now source source_then target target_then c.run_sync.result c.caller.ensures.lawful c.caller-2.ensures.lawful c.run_sync.ensures.ran).0

pub returns-clause-synced : goal.returns-clause-synced
returns-clause-synced g c =
    let source = g.L.NameLink.known c.args.source.now in
    let source_then = g.L.NameLink.known c.run_sync.new.source in
    let target = g.L.NameLink.known c.args.target.now in
    let target_then = g.L.NameLink.known c.run_sync.new.target in
    (c.runs_are_told.ensures c.args.job.now source source_then target target_then c.run_sync.result c.caller.ensures.lawful c.caller-2.ensures.lawful c.run_sync.ensures.ran).1
