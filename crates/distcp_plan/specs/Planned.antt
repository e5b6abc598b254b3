-- The plan of a sync from its report, the listings of new directories and the names in the two roots.
use Rattle.std.specs.Prelude.{ℕ, ◌+◌, Bool, true, false, ◌||◌, if◌then◌else◌, List, [], ◌∷◌, ◌++◌, map, length, reverse, slice_get, Option, Some, None}
use Rattle.std.specs.List.{filter_map}
use Rattle.std.specs.FinMap.Entries.{put}
use Rattle.hs_types.specs.Names.{Names}
use Rattle.hs_types.specs.declared.ids.InodeId.{InodeId}
use Rattle.hs_types.specs.declared.reply.Item.{Item}
use Rattle.hs_types.specs.declared.reply.Line.{Line}
use Rattle.hs_types.specs.declared.reply.LineKind.{LineKind}
use Rattle.hs_types.specs.declared.reply.LineKind.TheVariants.{Deleted, Renamed, Modified, Created}
use Rattle.hs_plain.specs.declared.plan.CopyJob.{CopyJob}
use Rattle.hs_plain.specs.declared.plan.Listing.{Listing}
use Rattle.hs_plain.specs.declared.plan.Plan.{Plan}
use Rattle.hs_plain.specs.declared.plan.Put.{Put}
use Rattle.hs_plain.specs.declared.plan.Put.TheVariants.{Back, NewDir}
use Rattle.hs_plain.specs.declared.plan.RootNames.{RootNames}
use Rattle.hs_plain.specs.Tree.{path_cmp, same_inode}
use Rattle.hs_plain.specs.Plan.{translate, translate_created, tmp_for}
use Rattle.distcp_plan.specs.declared.found.Found.{Found}

-- ---- lines

-- where an `R` line leads; without a target it doesn't count
abbrev pub target_by : LineKind → Option Names → Option Names
target_by Renamed to = to
target_by Deleted to = None
target_by Modified to = None
target_by Created to = None

abbrev pub target_of : Line → Option Names
target_of line = target_by line.kind line.to

abbrev pub is_out : LineKind → Bool
is_out Deleted = true
is_out Renamed = true
is_out Modified = false
is_out Created = false

-- what a line moves out
abbrev pub out_path : Line → Option Names
out_path line = if is_out line.kind then Some line.path else None

-- what is moved out, the last line first
abbrev pub outs_by : List Line → List Names
outs_by lines = reverse (filter_map out_path lines)

abbrev pub has_id : Option Names → InodeId → InodeId → Bool
has_id None one id = false
has_id (Some to) one id = same_inode one id

-- whether an `R` line has this id
abbrev pub renames : List Line → InodeId → Bool
renames [] id = false
renames (line ∷ lines) id = has_id (target_of line) line.id id || renames lines id

-- ---- what is new, and files to be copied

abbrev pub nothing : Found
nothing = record { dirs = []; files = [] }

-- a directory, or a file with its id, at its path
abbrev pub with_item : InodeId → Bool → Names → Found → Found
with_item id true path found = record { dirs = found.dirs ++ path ∷ []; files = found.files }
with_item id false path found = record { dirs = found.dirs; files = found.files ++ record { id = id; to = path } ∷ [] }

-- a file with an `M` line, where it comes to stand
abbrev pub with_changed : InodeId → Bool → Names → Found → Found
with_changed id true path found = found
with_changed id false path found = with_item id false path found

-- a new item in a directory that was there; the root is never new
abbrev pub with_created : List Line → InodeId → Bool → Names → Found → Found
with_created lines id is_dir [] found = found
with_created lines id is_dir (name ∷ names) found = with_item id is_dir (translate_created lines (name ∷ names)) found

-- what a line tells
abbrev pub by_line : List Line → LineKind → Line → Found → Found
by_line lines Created line found = with_created lines line.id line.is_dir line.path found
by_line lines Modified line found = with_changed line.id line.is_dir (translate lines line.path) found
by_line lines Deleted line found = found
by_line lines Renamed line found = found

abbrev pub by_lines : List Line → List Line → Found → Found
by_lines lines [] found = found
by_lines lines (line ∷ more) found = by_lines lines more (by_line lines line.kind line found)

-- an item of a new directory is new where no `R` line has its id
abbrev pub by_item : List Line → Names → Item → Found → Found
by_item lines dir item found = if renames lines item.id then found else with_item item.id item.is_dir (dir ++ item.name ∷ []) found

abbrev pub by_items : List Line → Names → List Item → Found → Found
by_items lines dir [] found = found
by_items lines dir (item ∷ items) found = by_items lines dir items (by_item lines dir item found)

-- what a listing shows in its directory; one without a directory counts for nothing
abbrev pub by_listing : List Line → Option Names → List Item → Found → Found
by_listing lines None items found = found
by_listing lines (Some dir) items found = by_items lines dir items found

-- each listing is of the next of the new directories, in the order in which they are found
abbrev pub by_listings : List Line → ℕ → List Listing → Found → Found
by_listings lines at [] found = found
by_listings lines at (one ∷ more) found = by_listings lines (at + 1) more (by_listing lines (slice_get found.dirs at) one.items found)

-- all new directories, and all files that are new or changed
abbrev pub all_found : List Line → List Listing → Found
all_found lines listings = by_listings lines 0 listings (by_lines lines lines nothing)

-- ---- in order

-- by rising path, each in its place
abbrev pub in_places : {V : Type 0} → List (Names × V) → List (Names × V) → List (Names × V)
in_places places [] = places
in_places places (one ∷ more) = in_places (put path_cmp one.0 one.1 places) more

abbrev pub with_move : Option Names → ℕ → List (Names × Option ℕ) → List (Names × Option ℕ)
with_move None index more = more
with_move (Some to) index more = (to, Some index) ∷ more

-- where the moved go, each with its out's number: as many outs as come from the lines behind it
abbrev pub moves_by : List Line → List (Names × Option ℕ)
moves_by [] = []
moves_by (line ∷ lines) = with_move (target_of line) (length (filter_map out_path lines)) (moves_by lines)

abbrev pub new_place : Names → Names × Option ℕ
new_place path = (path, None)

abbrev pub put_by : Names → Option ℕ → Put
put_by to (Some index) = Back index to
put_by to None = NewDir to

abbrev pub as_put : Names × Option ℕ → Put
as_put place = put_by place.0 place.1

-- the targets of `R` lines and the new directories, by rising path
abbrev pub puts_by : List Line → List Names → List Put
puts_by lines dirs = map as_put (in_places (in_places [] (moves_by lines)) (map new_place dirs))

abbrev pub file_place : CopyJob → Names × InodeId
file_place job = (job.to, job.id)

abbrev pub as_job : Names × InodeId → CopyJob
as_job place = record { id = place.1; to = place.0 }

-- the files, by rising path
abbrev pub copies_by : List CopyJob → List CopyJob
copies_by files = map as_job (in_places [] (map file_place files))

-- ---- the plan

abbrev pub plan_with : List Line → Found → RootNames → Plan
plan_with lines found roots = record { tmp = tmp_for roots; outs = outs_by lines; puts = puts_by lines found.dirs; copies = copies_by found.files }

-- the plan of these lines, listings and names
abbrev pub planned : List Line → List Listing → RootNames → Plan
planned lines listings roots = plan_with lines (all_found lines listings) roots
