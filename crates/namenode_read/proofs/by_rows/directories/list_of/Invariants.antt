use Rattle.std.proofs.Common.{◌≡◌, ◌++◌, map}
use Rattle.namenode_read.specs.Directories.{keyed, as_dir}
use Rattle.namenode_read.proofs.by_rows.directories.list_of.Given as goal

-- the directories so far and those that are left are all
abbrev pub invariant-loop-path : goal.invariant-loop-path
invariant-loop-path l = l.list.items ++ map as_dir (keyed l.path-iterator) ≡ map as_dir (keyed l.initial.path-iterator)
