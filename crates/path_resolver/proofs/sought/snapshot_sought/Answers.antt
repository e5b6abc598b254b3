use Rattle.hs_plain.specs.State.{snapshot_named}
use Rattle.hs_plain.specs.inside.Faults.{IsFaultOf}
use Rattle.path_resolver.proofs.Named.{match_err}
use Rattle.path_resolver.proofs.sought.snapshot_sought.Goals as goal

pub returns-in_err-name-clause-asked : goal.returns-in_err-name-clause-asked
returns-in_err-name-clause-asked c = λ table state all.
    match_err c.from_residual.result c.in_err-name.field-0.0 _ (IsFaultOf (snapshot_named state.members c.args.dir c.args.text.now)) c.from_residual.ensures.1 (c.in_err-name.ensures.refused table c.args.snaps.now state all c.args.dir)
