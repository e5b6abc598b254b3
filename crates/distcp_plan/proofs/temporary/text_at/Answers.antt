use Rattle.std.proofs.Common.{ap, ◌∙◌}
use Rattle.hs_types.specs.Names.{is_name}
use Rattle.distcp_plan.proofs.Names.{tmp-is_name}
use Rattle.distcp_plan.proofs.temporary.text_at.Goals as goal

pub returns-in_ok-format-clause-name : goal.returns-in_ok-format-clause-name
returns-in_ok-format-clause-name c = ap is_name c.in_ok-format.ensures.ok ∙ tmp-is_name c.args.number c.ranges.number.fits
