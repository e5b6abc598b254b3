-- What a name is.
use Rattle.std.specs.Prelude.{ℕ, Bool, not, ◌&&◌, ◌||◌, ◌==◌, nat_le, bytes_eq, codes, List, [], length}
use Rattle.std.specs.List.{list_any}
use Rattle.hs_types.specs.Limits.{name_limit}

-- a path as the names of its components, the topmost first; the root has none
abbrev pub Names : Type 0
Names = List (List ℕ)

-- the reserved name under which a directory's snapshots are found (HDFS Snapshots guide, "Snapshot Paths")
abbrev pub snapshot_word : List ℕ
snapshot_word = codes ".snapshot"

abbrev pub is_snapshot_word : List ℕ → Bool
is_snapshot_word text = bytes_eq text snapshot_word

-- `.` or `..`
abbrev pub is_dots : List ℕ → Bool
is_dots text = bytes_eq text (codes ".") || bytes_eq text (codes "..")

abbrev pub is_slash : ℕ → Bool
is_slash byte = byte == 47

abbrev pub is_nul : ℕ → Bool
is_nul byte = byte == 0

-- a text is a name: 1 to 255 bytes without `/` and U+0000, and none of `.`, `..` and `.snapshot`
abbrev pub is_name : List ℕ → Bool
is_name text = not (bytes_eq text []) && nat_le (length text) name_limit && not (list_any is_slash text) && not (list_any is_nul text) && not (is_dots text) && not (is_snapshot_word text)
