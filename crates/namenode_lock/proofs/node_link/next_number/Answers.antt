use Rattle.std.proofs.Common.{ap, ◌∙◌}
use Rattle.hs_plain.specs.Legal.{number_rises}
use Rattle.namenode_lock.proofs.Alone.{next_rises}
use Rattle.namenode_lock.proofs.node_link.next_number.Goals as goal

pub returns-clause-rises : goal.returns-clause-rises
returns-clause-rises c = ap (number_rises c.args.calls) c.saturating_add.ensures ∙ next_rises c.args.calls c.ranges.calls.fits
