-- The lines that are found by rows. For proofs: contracts speak of the plain machine's lines.
use Rattle.std.specs.Prelude.{ℕ, Bool, not, ◌&&◌, ◌||◌, ◌==◌, bytes_eq, is_some, if◌then◌else◌, List, [], ◌∷◌, ◌++◌, Option, Some, None}
use Rattle.std.specs.List.{filter_map, flat_map}
use Rattle.hs_types.specs.Names.{Names}
use Rattle.hs_types.specs.declared.ids.InodeId.{InodeId}
use Rattle.hs_types.specs.declared.ids.SnapId.{SnapId}
use Rattle.hs_types.specs.declared.name.Spot.{Spot}
use Rattle.hs_types.specs.declared.reply.Line.{Line}
use Rattle.hs_types.specs.declared.reply.LineKind.{LineKind}
use Rattle.hs_types.specs.declared.reply.LineKind.TheVariants.{Deleted, Renamed, Modified, Created}
use Rattle.hs_plain.specs.Report.{line_if}
use Rattle.hs_plain.specs.Tree.{same_inode}
use Rattle.file_changes.specs.History.{state_at}
use Rattle.dir_changes.specs.Entries.{Entry, holds}
use Rattle.dir_changes.specs.History.{DirHistory, children_at, marks_at}
use Rattle.inode_table.specs.RowHistory.{RowHistory, File, Dir, rows_at, spot_in}
use Rattle.inode_table.specs.Tabled.{Tabled}
use Rattle.path_resolver.specs.ByRows.{is_dir_row}
use Rattle.path_resolver.specs.Rising.{way_down}
use Rattle.change_report.specs.declared.ends.Ends.{Ends}
use Rattle.change_report.specs.declared.ends.Paths.{Paths}
use Rattle.change_report.specs.declared.ends.Side.{Side}

abbrev pub gone_side : Ends → Side
gone_side ends = record { root = ends.root; here = ends.from; other = ends.to; kind = Deleted }

abbrev pub new_side : Ends → Side
new_side ends = record { root = ends.root; here = ends.to; other = ends.from; kind = Created }

-- a line on an inode that is a directory or not
abbrev pub row_line : LineKind → Names → Option Names → InodeId → Bool → Line
row_line kind path to id is_dir = record { kind = kind; path = path; to = to; id = id; is_dir = is_dir }

-- ---- an inode that stands at both ends

abbrev pub stamp_in : ℕ → RowHistory → ℕ
stamp_in s (File file) = (state_at s file).stamp
stamp_in s (Dir dir) = (marks_at s dir).stamp

abbrev pub same_spot : Spot → Spot → Bool
same_spot a b = same_inode a.parent b.parent && bytes_eq a.name b.name

-- whether it is the report's directory, or has the same parent and name at both ends
abbrev pub has_stayed : Ends → InodeId → RowHistory → Bool
has_stayed ends id rows = same_inode id ends.root || same_spot (spot_in ends.from.0 rows) (spot_in ends.to.0 rows)

-- where it has moved, and where its stamp is another
abbrev pub own_lines : Ends → InodeId → RowHistory → Names → Names → List Line
own_lines ends id rows old new =
    line_if (not (has_stayed ends id rows)) (row_line Renamed old (Some new) id (is_dir_row (Some rows)))
    (line_if (not (stamp_in ends.from.0 rows == stamp_in ends.to.0 rows)) (row_line Modified old None id (is_dir_row (Some rows))) [])

-- ---- entries of a directory at one end

-- whether an inode stands at an end
abbrev pub stands_at : Tabled → InodeId → SnapId → InodeId → Bool
stands_at table root end id = is_some (way_down table end.0 root id)

-- whether the list at the other end hasn't the entry, and its inode doesn't stand there
abbrev pub is_alone : Tabled → Side → DirHistory → Entry → Bool
is_alone table side dir entry = not (holds (children_at side.other.0 dir) entry) && not (stands_at table side.root side.other entry.1)

-- the line of such an entry, below the directory's path
abbrev pub entry_line : Tabled → Side → Names → DirHistory → Entry → Option Line
entry_line table side path dir entry = if is_alone table side dir entry then Some (row_line side.kind (path ++ entry.0 ∷ []) None entry.1 (is_dir_row (rows_at table.rows entry.1))) else None

abbrev pub side_lines : Tabled → Side → Names → DirHistory → List Line
side_lines table side path dir = filter_map (entry_line table side path dir) (children_at side.here.0 dir)

-- what is gone from it and what is new in it; a file has no list
abbrev pub list_lines : Tabled → Ends → Names → RowHistory → List Line
list_lines table ends path (File file) = []
list_lines table ends path (Dir dir) = side_lines table (gone_side ends) path dir ++ side_lines table (new_side ends) path dir

-- ---- all

-- where an inode stands at both ends
abbrev pub paths_of : Option Names → Option Names → Option Paths
paths_of None new = None
paths_of (Some old) None = None
paths_of (Some old) (Some new) = Some (record { old = old; new = new })

abbrev pub both_paths : Tabled → Ends → InodeId → Option Paths
both_paths table ends id = paths_of (way_down table ends.from.0 ends.root id) (way_down table ends.to.0 ends.root id)

-- the lines of a row, by the paths of its inode
abbrev pub lines_at : Tabled → Ends → InodeId → RowHistory → Option Paths → List Line
lines_at table ends id rows None = []
lines_at table ends id rows (Some paths) = own_lines ends id rows paths.old paths.new ++ list_lines table ends paths.old rows

abbrev pub lines_by : Tabled → Ends → InodeId → Option RowHistory → List Line
lines_by table ends id None = []
lines_by table ends id (Some rows) = lines_at table ends id rows (both_paths table ends id)

abbrev pub row_lines : Tabled → Ends → InodeId → List Line
row_lines table ends id = lines_by table ends id (rows_at table.rows id)

abbrev pub all_lines : Tabled → Ends → List InodeId → List Line
all_lines table ends ids = flat_map (row_lines table ends) ids
