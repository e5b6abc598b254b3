use Rattle.std.proofs.Common.{◌≡◌, ◌+◌, ◌≤◌, length}
use Rattle.distcp_plan.specs.inside.Leads.{lead_table, led_below, led_in}
use Rattle.distcp_plan.proofs.moves.translated.Given as goal

abbrev pub invariant-loop-left : goal.invariant-loop-left
invariant-loop-left l = record { within : l.left ≤ length l.path + 1; led : led_below (lead_table l.moves) l.path l.left ≡ led_in (lead_table l.moves) l.path }

abbrev pub decreases-loop-left : goal.decreases-loop-left
decreases-loop-left l = l.left
