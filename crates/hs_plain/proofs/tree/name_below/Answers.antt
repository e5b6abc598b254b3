use Rattle.std.proofs.Common.{sym}
use Rattle.hs_plain.proofs.Below.{below-none}
use Rattle.hs_plain.proofs.tree.name_below.Goals as goal

pub returns-then-path-dir : goal.returns-then-path-dir
returns-then-path-dir c = sym (below-none c.args.dir.now c.args.path.now c.if-path-dir.true)
