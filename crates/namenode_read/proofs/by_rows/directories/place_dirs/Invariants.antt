use Rattle.std.proofs.Common.{◌≡◌, drop}
use Rattle.inode_table.specs.Kept.{told}
use Rattle.namenode_read.specs.Directories.{keyed, with_dirs}
use Rattle.namenode_read.proofs.by_rows.directories.place_dirs.Given as goal

-- with those that are left the places are the same
abbrev pub invariant-loop-dir : goal.invariant-loop-dir
invariant-loop-dir l = with_dirs (told l.table) l.snaps (drop l.dir-index l.dirs) (keyed l.places.entries) ≡ with_dirs (told l.table) l.snaps l.dirs (keyed l.initial.places.entries)
