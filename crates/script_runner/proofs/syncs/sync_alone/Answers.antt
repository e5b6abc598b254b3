use Rattle.script_runner.proofs.SyncSteps.{sync_ran, gone_stays}
use Rattle.script_runner.proofs.syncs.sync_alone.Goals as goal

pub returns-clause-ran : goal.returns-clause-ran
returns-clause-ran g c =
    sync_ran g.B.BlockStore.blocks g.B.BlockStore.faults c.args.source.now.caller c.sync_one.new.source.caller c.args.target.now.caller c.sync_one.new.target.caller c.args.source.now.seq c.sync_one.new.source.seq c.args.target.now.seq c.sync_one.new.target.seq
    c.args.source.now.node.now c.sync_one.new.source.node.now c.args.target.now.node.now c.sync_one.new.target.node.now c.args.job.now c.sync_one.result
    c.requires.usual_source c.requires.usual_target c.requires.one_caller c.sync_one.ensures.stays.0 c.sync_one.ensures.stays.1 c.sync_one.ensures.calls c.sync_one.ensures.synced

pub returns-clause-source_stays : goal.returns-clause-source_stays
returns-clause-source_stays g c =
    gone_stays g.B.BlockStore.blocks g.B.BlockStore.faults c.args.source.now.caller c.sync_one.new.source.caller c.args.source.now.seq c.sync_one.new.source.seq c.args.source.now.node.now c.sync_one.new.source.node.now c.sync_one.ensures.stays.0 c.sync_one.ensures.calls.source_goes

pub returns-clause-target_stays : goal.returns-clause-target_stays
returns-clause-target_stays g c =
    gone_stays g.B.BlockStore.blocks g.B.BlockStore.faults c.args.target.now.caller c.sync_one.new.target.caller c.args.target.now.seq c.sync_one.new.target.seq c.args.target.now.node.now c.sync_one.new.target.node.now c.sync_one.ensures.stays.1 c.sync_one.ensures.calls.target_goes
