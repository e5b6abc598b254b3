use Rattle.hs_plain.proofs.Walks.{lengths_differ}
use Rattle.hs_plain.proofs.tree.is_path_of.Goals as goal

pub returns-else-place-path : goal.returns-else-place-path
returns-else-place-path c = lengths_differ c.args.path.now c.args.place.now c.if-place-path.false
