use Rattle.std.proofs.Common.{◌∙◌}
use Rattle.distcp_sync.proofs.Running.{run_wanting}
use Rattle.distcp_sync.proofs.syncing.run.Goals as goal

pub returns-in-Err-clause-ran : goal.returns-in-Err-clause-ran
returns-in-Err-clause-ran g c =
    run_wanting c.args.job.now (g.L.NameLink.known c.args.source.now) (g.L.NameLink.known c.args.target.now) c.args.moves.now.items c.args.copies.now.items c.reserve.new.self.items c.requires.no_moves c.requires.no_copies (c.reserve.ensures.items ∙ c.requires.no_looks)
