-- The limits of names, paths, snapshots, journals, blocks and pages.
use Rattle.std.specs.Prelude.{ℕ}

-- the most bytes of a name
abbrev pub name_limit : ℕ
name_limit = 255

-- the most bytes of a path's counted text
abbrev pub path_limit : ℕ
path_limit = 8000

-- the most counted components of a path
abbrev pub depth_limit : ℕ
depth_limit = 1000

-- the most snapshots of one directory (HDFS Snapshots guide, "Snapshottable Directories")
abbrev pub snapshot_limit : ℕ
snapshot_limit = 65536

-- the most entries of a namenode's journal
abbrev pub journal_limit : ℕ
journal_limit = 1000000

-- the most bytes of a block, of one append and of one page of a read
abbrev pub block_size : ℕ
block_size = 65536
