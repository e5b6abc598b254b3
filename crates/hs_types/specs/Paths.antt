-- What a path is.
use Rattle.std.specs.Prelude.{◌≡◌, ℕ, ◌+◌, Bool, not, ◌||◌, nat_lt, nat_eq, bytes_eq, codes, if◌then◌else◌, List, [], ◌∷◌, ◌++◌, length, drop, sum_by, count_by, Result, Ok, Err}
use Rattle.std.specs.List.{list_any, slice_split, position_or_len, before_first, after_first, starts_with, flat_map}
use Rattle.hs_types.specs.Limits.{name_limit, path_limit, depth_limit}
use Rattle.hs_types.specs.Names.{Names, is_slash, is_nul, is_dots, is_snapshot_word}
use Rattle.hs_types.specs.declared.path.Path.{Path}
use Rattle.hs_types.specs.declared.path.PathTail.{PathTail}
use Rattle.hs_types.specs.declared.path.PathTail.TheVariants.{Plain, SnapshotList, Frozen}
use Rattle.hs_types.specs.declared.path.PathFault.{PathFault}
use Rattle.hs_types.specs.declared.path.PathFault.TheVariants as faults
use Rattle.hs_types.specs.declared.refusal.Refusal.{Refusal}
use Rattle.hs_types.specs.declared.refusal.Refusal.TheVariants.{BadPath, TooLong, TooDeep}

-- the components of a text: what stands after each slash, and nothing for `/` alone
abbrev pub components : List ℕ → Names
components text = if bytes_eq text (codes "/") then [] else drop 1 (slice_split is_slash text)

-- empty, `.`, `..`, or with a U+0000
abbrev pub is_bad_component : List ℕ → Bool
is_bad_component part = bytes_eq part [] || is_dots part || list_any is_nul part

-- no path: without a slash at the front, with a bad component, or with `.snapshot` twice
abbrev pub is_bad_path : List ℕ → Bool
is_bad_path text = not (starts_with nat_eq text (codes "/")) || list_any is_bad_component (components text) || nat_lt 1 (count_by is_snapshot_word (components text))

-- the components that the limits count: all but `.snapshot` and the one after it
abbrev pub counted_parts : Names → Names
counted_parts parts = before_first is_snapshot_word parts ++ drop 1 (after_first is_snapshot_word parts)

-- the bytes of a path's text, with a slash before each component
abbrev pub text_length : Names → ℕ
text_length parts = sum_by (λ part. length part + 1) parts

abbrev pub is_long_component : List ℕ → Bool
is_long_component part = nat_lt name_limit (length part)

-- a component of more than 255 bytes, or more than 8,000 bytes of counted text
abbrev pub is_too_long : Names → Bool
is_too_long parts = list_any is_long_component parts || nat_lt path_limit (text_length (counted_parts parts))

-- more than 1,000 counted components
abbrev pub is_too_deep : Names → Bool
is_too_deep parts = nat_lt depth_limit (length (counted_parts parts))

-- what follows the base: nothing, `.snapshot` alone, or also a snapshot's name and what lies below (HDFS Snapshots guide, "Snapshot Paths")
abbrev pub tail_at : Names → PathTail
tail_at [] = Plain
tail_at (word ∷ []) = SnapshotList
tail_at (word ∷ snapshot ∷ rest) = Frozen snapshot rest

-- the path of these components
abbrev pub path_from : Names → Path
path_from parts = record { base = before_first is_snapshot_word parts; tail = tail_at (drop (position_or_len is_snapshot_word parts) parts) }

-- the path that a text stands for, or the first rule that it breaks
abbrev pub path_of : List ℕ → Result Path Refusal
path_of text =
    if is_bad_path text then Err BadPath
    else if is_too_long (components text) then Err TooLong
    else if is_too_deep (components text) then Err TooDeep
    else Ok (path_from (components text))

-- a name with its slash before it
abbrev pub component_text : List ℕ → List ℕ
component_text name = codes "/" ++ name

-- the text of a live path: `/` alone for the root, and else each name with its slash before it
abbrev pub path_text : Names → List ℕ
path_text [] = codes "/"
path_text (name ∷ names) = flat_map component_text (name ∷ names)

-- a fault that was told is that of the text, or memory ran out
abbrev pub IsPathFault : Result Path Refusal → PathFault → Type 0
IsPathFault read faults.NoMemory = Unit {0}
IsPathFault read faults.BadPath = read ≡ Err BadPath
IsPathFault read faults.TooLong = read ≡ Err TooLong
IsPathFault read faults.TooDeep = read ≡ Err TooDeep
