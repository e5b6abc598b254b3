use Rattle.std.proofs.Common.{◌≡◌, ◌++◌, map}
use Rattle.path_resolver.specs.Above.{left_from}
use Rattle.namenode_read.specs.Directories.{dirs_from}
use Rattle.namenode_read.proofs.by_rows.directories.directories.Given as goal

-- the directories so far and those from the next one on are all
abbrev pub invariant-loop-next : goal.invariant-loop-next
invariant-loop-next l = l.dirs ++ dirs_from l.next l.snaps.dirs ≡ map (λ d. d.0) l.snaps.dirs

abbrev pub decreases-loop-next : goal.decreases-loop-next
decreases-loop-next l = left_from l.next l.snaps.dirs
