-- The report between two trees of one root. The letters are those of the HDFS Snapshots guide, "Get Snapshots Difference Report".
use Rattle.std.specs.Prelude.{ℕ, Bool, true, false, not, ◌&&◌, ◌||◌, ◌==◌, nat_lt, bytes_eq, if◌then◌else◌, List, [], ◌∷◌, ◌++◌, Option, Some, None, is_some}
use Rattle.std.specs.List.{filter_map, flat_map}
use Rattle.std.specs.Option.{option_map}
use Rattle.std.specs.Ordering.{is_lt, is_eq}
use Rattle.hs_types.specs.Names.{Names}
use Rattle.hs_types.specs.declared.ids.InodeId.{InodeId}
use Rattle.hs_types.specs.declared.reply.Line.{Line}
use Rattle.hs_types.specs.declared.reply.LineKind.{LineKind}
use Rattle.hs_types.specs.declared.reply.LineKind.TheVariants.{Deleted, Renamed, Modified, Created}
use Rattle.hs_plain.specs.declared.state.Node.{Node}
use Rattle.hs_plain.specs.Tree.{Tree, path_cmp, node_at, is_dir, parent_of, is_root_path, same_inode, place_of}

-- ---- where a node stands

abbrev pub node_id : {B : Type 0} → Node B → InodeId
node_id node = node.id

-- the id of the directory above a path; of the root it is the root's own
abbrev pub id_above : {B : Type 0} → Tree B → Names → Option InodeId
id_above tree path = option_map node_id (node_at tree (parent_of path))

-- the last name of a path; the root has none
abbrev pub last_of : Names → List ℕ
last_of [] = []
last_of (name ∷ []) = name
last_of (name ∷ next ∷ rest) = last_of (next ∷ rest)

abbrev pub same_id : Option InodeId → Option InodeId → Bool
same_id None None = true
same_id None (Some b) = false
same_id (Some a) None = false
same_id (Some a) (Some b) = same_inode a b

-- whether a place in one tree and one in another have the same parent and name; the root has neither
abbrev pub same_place : {B : Type 0} → Tree B → Tree B → Names → Names → Bool
same_place from to old new = is_root_path old || (same_id (id_above from old) (id_above to new) && bytes_eq (last_of old) (last_of new))

-- whether an id is in a tree
abbrev pub has_id : {B : Type 0} → Tree B → Option InodeId → Bool
has_id tree None = false
has_id tree (Some id) = is_some (place_of tree id)

-- whether the directory above a path of the first tree is in the second
abbrev pub parent_stays : {B : Type 0} → Tree B → Tree B → Names → Bool
parent_stays from to path = has_id to (id_above from path)

-- whether a node of both trees has another stamp
abbrev pub is_changed : {B : Type 0} → Node B → Node B → Bool
is_changed before now = not (before.stamp == now.stamp)

-- ---- lines

-- the order of lines of one path
abbrev pub rank_of : LineKind → ℕ
rank_of Deleted = 0
rank_of Renamed = 1
rank_of Modified = 2
rank_of Created = 3

abbrev pub line_of : {B : Type 0} → LineKind → Names → Option Names → Node B → Line
line_of kind path to node = record { kind = kind; path = path; to = to; id = node.id; is_dir = is_dir node }

abbrev pub line_if : Bool → Line → List Line → List Line
line_if test line more = if test then line ∷ more else more

-- the lines of a node of the first tree, by its place in the second: gone from a directory that is still there, moved, or changed
abbrev pub lines_by : {B : Type 0} → Tree B → Tree B → Names × Node B → Option (Names × Node B) → List Line
lines_by from to place None = line_if (parent_stays from to place.0) (line_of Deleted place.0 None place.1) []
lines_by from to place (Some other) =
    line_if (not (same_place from to place.0 other.0)) (line_of Renamed place.0 (Some other.0) place.1)
    (line_if (is_changed place.1 other.1) (line_of Modified place.0 None place.1) [])

abbrev pub lines_from : {B : Type 0} → Tree B → Tree B → Names × Node B → List Line
lines_from from to place = lines_by from to place (place_of to place.1.id)

abbrev pub place_above : {B : Type 0} → Tree B → Option InodeId → Option (Names × Node B)
place_above tree None = None
place_above tree (Some id) = place_of tree id

-- the line of a new node shows its name below the place that its directory had in the first tree
abbrev pub created_in : {B : Type 0} → Names × Node B → Option (Names × Node B) → Option Line
created_in place None = None
created_in place (Some dir) = Some (line_of Created (dir.0 ++ last_of place.0 ∷ []) None place.1)

abbrev pub created_by : {B : Type 0} → Tree B → Tree B → Names × Node B → Option (Names × Node B) → Option Line
created_by from to place None = created_in place (place_above from (id_above to place.0))
created_by from to place (Some other) = None

-- the line of a node of the second tree that isn't in the first, where its directory is
abbrev pub created : {B : Type 0} → Tree B → Tree B → Names × Node B → Option Line
created from to place = created_by from to place (place_of from place.1.id)

-- ---- the order of lines

-- by path, component by component, and then in the order `-`, `R`, `M`, `+`
abbrev pub line_before : Line → Line → Bool
line_before a b = is_lt (path_cmp a.path b.path) || (is_eq (path_cmp a.path b.path) && nat_lt (rank_of a.kind) (rank_of b.kind))

-- a line in its place by that order
abbrev pub with_line : Line → List Line → List Line
with_line line [] = line ∷ []
with_line line (other ∷ lines) = if line_before other line then other ∷ with_line line lines else line ∷ other ∷ lines

abbrev pub with_lines : List Line → List Line → List Line
with_lines [] lines = lines
with_lines (line ∷ more) lines = with_line line (with_lines more lines)

-- all lines in their order: those of the first tree's nodes, by their paths, and the new nodes' put among them
abbrev pub report : {B : Type 0} → Tree B → Tree B → List Line
report from to = with_lines (filter_map (created from to) to) (flat_map (lines_from from to) from)
