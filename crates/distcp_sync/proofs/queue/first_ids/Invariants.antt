use Rattle.std.proofs.Common.{◌≡◌, ◌++◌, drop}
use Rattle.distcp_sync.specs.inside.Queue.{first_ids}
use Rattle.distcp_sync.proofs.queue.first_ids.Given as goal

-- those so far and those of the lines that are left are all
abbrev pub invariant-loop-line : goal.invariant-loop-line
invariant-loop-line l = l.ids.items ++ first_ids (drop l.line-index l.lines) ≡ first_ids l.lines
