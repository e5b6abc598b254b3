use Rattle.distcp_sync.proofs.Running.{run_reported}
use Rattle.distcp_sync.proofs.syncing.run_sync.Goals as goal

pub returns-clause-ran : goal.returns-clause-ran
returns-clause-ran g c =
    let source = g.L.NameLink.known c.args.source.now in
    let source_then = g.L.NameLink.known c.run-ended.new.source in
    let target = g.L.NameLink.known c.args.target.now in
    let target_then = g.L.NameLink.known c.run-ended.new.target in
    run_reported c.args.job.now source source_then target target_then c.run-ended.result c.run-ended.new.moves.items c.of.result c.run-ended.new.copies.items c.of-2.result c.run-ended.new.looks.items c.of-3.result c.answer_of.result
    c.answer_of.ensures c.of.ensures c.of-2.ensures c.of-3.ensures c.run-ended.ensures.ran
