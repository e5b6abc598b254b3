use Rattle.std.proofs.Common.{◌≡◌, ◌≤◌, length, drop}
use Rattle.distcp_plan.specs.inside.Leads.{lead_table, shown_table}
use Rattle.distcp_plan.proofs.moves.leads_of.Given as goal

abbrev pub invariant-loop-at : goal.invariant-loop-at
invariant-loop-at l = record { within : l.at ≤ length l.lines; table : shown_table l.leads.entries ≡ lead_table (drop l.at l.lines) }

abbrev pub decreases-loop-at : goal.decreases-loop-at
decreases-loop-at l = l.at
