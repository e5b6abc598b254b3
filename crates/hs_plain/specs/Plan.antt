-- The plan of a sync: translation, plan and plan calls, by the ids of two trees of one root. That the reported difference is
-- applied to the target is from the DistCp guide, "-diff"; how it is applied is this project's own.
use Rattle.std.specs.Prelude.{◌≡◌, ◌≢◌, ⊤, ℕ, zero, suc, ◌+◌, Bool, true, false, not, ◌||◌, ◌&&◌, ◌==◌, nat_lt, bytes_eq, codes, if◌then◌else◌, List, [], ◌∷◌, ◌++◌, map, length, take, drop, reverse, slice_get, Option, Some, None, is_some, Result, Ok, Err}
use Rattle.std.specs.List.{filter, filter_map, flat_map, starts_with}
use Rattle.std.specs.Fmt.{decimal}
use Rattle.std.specs.Option.{unwrap_or, option_map}
use Rattle.hs_types.specs.Names.{Names}
use Rattle.hs_types.specs.Limits.{block_size}
use Rattle.hs_types.specs.Paths.{component_text, path_of}
use Rattle.hs_types.specs.declared.reply.Line.{Line}
use Rattle.hs_types.specs.declared.reply.LineKind.{LineKind}
use Rattle.hs_types.specs.declared.reply.LineKind.TheVariants.{Renamed, Created}
use Rattle.hs_types.specs.declared.path.Path.{Path}
use Rattle.hs_types.specs.declared.refusal.Refusal.{Refusal}
use Rattle.hs_types.specs.declared.call.Call.{Call}
use Rattle.hs_types.specs.declared.call.Call.TheVariants as calls
use Rattle.hs_plain.specs.declared.plan.Plan.{Plan}
use Rattle.hs_plain.specs.declared.plan.Put.{Put}
use Rattle.hs_plain.specs.declared.plan.Put.TheVariants.{Back, NewDir}
use Rattle.hs_plain.specs.declared.plan.CopyJob.{CopyJob}
use Rattle.hs_plain.specs.declared.plan.RootNames.{RootNames}
use Rattle.hs_plain.specs.declared.plan.Listing.{Listing}
use Rattle.hs_plain.specs.declared.state.Node.{Node}
use Rattle.hs_plain.specs.declared.state.Body.{Body}
use Rattle.hs_plain.specs.declared.state.Body.TheVariants.{File, Dir}
use Rattle.hs_plain.specs.Tree.{Tree, node_at, is_dir, parent_of, is_root_path, name_below, listing, same_path, place_of, path_at}
use Rattle.hs_plain.specs.Report.{same_place, parent_stays, is_changed, last_of, report}
use Rattle.hs_plain.specs.Span.{paths_in}

-- ---- translation

-- what is left of a path at another or below it
abbrev pub rest_below : Names → Names → Option Names
rest_below above path = if starts_with bytes_eq path above then Some (drop (length above) path) else None

abbrev pub is_renamed : LineKind → Bool
is_renamed Renamed = true
is_renamed kind = false

abbrev pub is_created : LineKind → Bool
is_created Created = true
is_created kind = false

-- a source of a move, with its target and what is left of a path below it
pub record Lead : Type 0 where
  pub source : Names
  pub target : Names
  pub rest : Names

abbrev pub lead_of : Names → Option Names → Option Names → Option Lead
lead_of source (Some target) (Some rest) = Some (record { source = source; target = target; rest = rest })
lead_of source (Some target) None = None
lead_of source None rest = None

-- how an `R` line with a target leads a path on, where its source is the path or above it
abbrev pub lead_by : Line → Names → Option Lead
lead_by line path = if is_renamed line.kind then lead_of line.path line.to (rest_below line.path path) else None

-- of two the longer source, and of two that are as long the first
abbrev pub longer : Option Lead → Option Lead → Option Lead
longer None b = b
longer (Some a) None = Some a
longer (Some a) (Some b) = if nat_lt (length a.source) (length b.source) then Some b else Some a

abbrev pub longest : List Line → Names → Option Lead
longest [] path = None
longest (line ∷ lines) path = longer (lead_by line path) (longest lines path)

abbrev pub led : Names → Option Lead → Names
led path None = path
led path (Some lead) = lead.target ++ lead.rest

-- the target of the longest source that is the path or above it, with the rest; without one the path itself
abbrev pub translate : List Line → Names → Names
translate lines path = led path (longest lines path)

-- the path that a `+` line shows, at the second end: its parent is translated, and it keeps its name
abbrev pub translate_created : List Line → Names → Names
translate_created lines path = translate lines (parent_of path) ++ last_of path ∷ []

-- ---- plan

-- whether a place of the first tree is moved out: it isn't in the second and its directory is, or it has another place there
abbrev pub goes_by : {B : Type 0} → Tree B → Tree B → Names → Option (Names × Node B) → Bool
goes_by from to path None = parent_stays from to path
goes_by from to path (Some other) = not (same_place from to path other.0)

abbrev pub goes : {B : Type 0} → Tree B → Tree B → Names × Node B → Bool
goes from to place = goes_by from to place.0 (place_of to place.1.id)

-- by falling path, so that what is below a directory goes before it
abbrev pub outs : {B : Type 0} → Tree B → Tree B → List Names
outs from to = reverse (map (λ place. place.0) (filter (goes from to) from))

-- the place of a path in a list of paths
abbrev pub index_of : List Names → Names → ℕ
index_of [] path = 0
index_of (one ∷ others) path = if same_path one path then 0 else index_of others path + 1

-- what comes to a place of the second tree: what was moved out and has its place there, or a new directory
abbrev pub put_by : {B : Type 0} → Tree B → Tree B → Names × Node B → Option (Names × Node B) → Option Put
put_by from to place None = if is_dir place.1 then Some (NewDir place.0) else None
put_by from to place (Some old) = if same_place from to old.0 place.0 then None else Some (Back (index_of (outs from to) old.0) place.0)

abbrev pub put_at : {B : Type 0} → Tree B → Tree B → Names × Node B → Option Put
put_at from to place = if is_root_path place.0 then None else put_by from to place (place_of from place.1.id)

-- by rising path, so that a directory comes before what is below it
abbrev pub puts : {B : Type 0} → Tree B → Tree B → List Put
puts from to = filter_map (put_at from to) to

abbrev pub is_other : {B : Type 0} → Names × Node B → Option (Names × Node B) → Bool
is_other place None = true
is_other place (Some old) = is_changed old.1 place.1

-- a file that is new or has another stamp
abbrev pub is_copied : {B : Type 0} → Tree B → Names × Node B → Bool
is_copied from place = not (is_dir place.1) && is_other place (place_of from place.1.id)

-- by rising path
abbrev pub copies : {B : Type 0} → Tree B → Tree B → List CopyJob
copies from to = map (λ place. record { id = place.1.id; to = place.0 }) (filter (is_copied from) to)

-- ---- the temporary directory

abbrev pub tmp_word : List ℕ
tmp_word = codes ".distcp.diff.tmp"

-- the names to choose from: the word alone, and then with 1, 2 and so on
abbrev pub tmp_name : ℕ → List ℕ
tmp_name zero = tmp_word
tmp_name (suc n) = tmp_word ++ decimal (suc n)

abbrev pub has_name : Names → List ℕ → Bool
has_name [] name = false
has_name (one ∷ others) name = bytes_eq one name || has_name others name

-- the first name from a number on that isn't taken, after at most so many that are
abbrev pub first_free : Names → ℕ → ℕ → List ℕ
first_free taken zero n = tmp_name n
first_free taken (suc more) n = if has_name taken (tmp_name n) then first_free taken more (n + 1) else tmp_name n

-- the first name that is a child neither of the target root at its `from` nor of the source root at `to`
abbrev pub tmp_for : RootNames → List ℕ
tmp_for names = first_free (names.target ++ names.source) (length (names.target ++ names.source)) 0

-- the names of a root's children
abbrev pub root_names : {B : Type 0} → Tree B → Names
root_names tree = map (λ item. item.name) (listing tree [])

-- the plan that leads from the first tree to the second; the names are those of the target root's children at its `from`
abbrev pub plan_of : {B : Type 0} → Tree B → Tree B → Names → Plan
plan_of from to names = record { tmp = tmp_for (record { target = names; source = root_names to }); outs = outs from to; puts = puts from to; copies = copies from to }

-- ---- listings

-- a new directory in its place, if it is one
abbrev pub new_dir_path : {B : Type 0} → Names × Node B → Option (Names × Node B) → Option Names
new_dir_path place None = if is_dir place.1 then Some place.0 else None
new_dir_path place (Some old) = None

-- the place of a child that is a new directory
abbrev pub new_child : {B : Type 0} → Tree B → Names → Names × Node B → Option Names
new_child from above place = if is_some (name_below above place.0) then new_dir_path place (place_of from place.1.id) else None

-- the new directories in a directory of the second tree, by name
abbrev pub new_dirs_in : {B : Type 0} → Tree B → Tree B → Names → List Names
new_dirs_in from to above = filter_map (new_child from above) to

-- those that wait, one after the other; what a listing shows comes behind those that wait
abbrev pub waiting_dirs : {B : Type 0} → ℕ → Tree B → Tree B → List Names → List Names
waiting_dirs most from to [] = []
waiting_dirs zero from to (path ∷ paths) = []
waiting_dirs (suc more) from to (path ∷ paths) = path ∷ waiting_dirs more from to (paths ++ new_dirs_in from to path)

abbrev pub created_dir : {B : Type 0} → Tree B → Line → Option Names
created_dir to line = if is_created line.kind && line.is_dir then path_at (place_of to line.id) else None

-- the new directories in the order in which they are listed: those of the `+` lines, and then what is found in them
abbrev pub listed_dirs : {B : Type 0} → Tree B → Tree B → List Names
listed_dirs from to = waiting_dirs (length to) from to (filter_map (created_dir to) (report from to))

abbrev pub listing_at : {B : Type 0} → Tree B → Names → Option Listing
listing_at to path = option_map (λ node. record { dir = node.id; items = listing to path }) (node_at to path)

-- the listings of the new directories, in order
abbrev pub listings_of : {B : Type 0} → Tree B → Tree B → List Listing
listings_of from to = filter_map (listing_at to) (listed_dirs from to)

-- ---- plan calls

-- the text of a path below a root
abbrev pub text_below : List ℕ → Names → List ℕ
text_below root [] = root
text_below root (name ∷ names) = (if bytes_eq root (codes "/") then [] else root) ++ flat_map component_text (name ∷ names)

-- the new place of the i-th out
abbrev pub out_place : Plan → ℕ → Names
out_place plan index = plan.tmp ∷ decimal index ∷ []

abbrev pub out_calls : List ℕ → Plan → ℕ → List Names → List Call
out_calls root plan index [] = []
out_calls root plan index (path ∷ paths) = calls.Rename (text_below root path) (text_below root (out_place plan index)) ∷ out_calls root plan (index + 1) paths

abbrev pub put_call : List ℕ → Plan → Put → Call
put_call root plan (Back index to) = calls.Rename (text_below root (out_place plan index)) (text_below root to)
put_call root plan (NewDir to) = calls.Mkdir (text_below root to)

-- the moves: the temporary directory is made, the outs go into it, the puts come out of it
abbrev pub move_calls : List ℕ → Plan → List Call
move_calls root plan = calls.Mkdir (text_below root (plan.tmp ∷ [])) ∷ out_calls root plan 0 plan.outs ++ map (put_call root plan) plan.puts

-- at most so many bytes a page; `most` is a bound of how many pages there are
abbrev pub pages_of : ℕ → List ℕ → List (List ℕ)
pages_of most [] = []
pages_of zero (byte ∷ bytes) = []
pages_of (suc most) (byte ∷ bytes) = take block_size (byte ∷ bytes) ∷ pages_of most (drop block_size (byte ∷ bytes))

-- one copy: the file is made anew, and its bytes are appended page by page
abbrev pub copy_calls : List ℕ → Names → List ℕ → List Call
copy_calls root path bytes = calls.Create (text_below root path) true ∷ map (calls.Append (text_below root path)) (pages_of (length bytes) bytes)

abbrev pub bytes_of_body : Body (List ℕ) → List ℕ
bytes_of_body (File bytes) = bytes
bytes_of_body Dir = []

abbrev pub bytes_there : Option (Names × Node (List ℕ)) → List ℕ
bytes_there None = []
bytes_there (Some place) = bytes_of_body place.1.body

-- the calls of each copy, with the bytes that the file has in the second tree
abbrev pub all_copy_calls : List ℕ → Plan → Tree (List ℕ) → List (List Call)
all_copy_calls root plan to = map (λ job. copy_calls root job.to (bytes_there (place_of to job.id))) plan.copies

-- the temporary directory goes, with what is still in it
abbrev pub last_call : List ℕ → Plan → Call
last_call root plan = calls.Delete (text_below root (plan.tmp ∷ [])) true

-- the calls with this number of their copy, in order
abbrev pub numbered_so : {A : Type 0} → ℕ → List (ℕ × A) → List A
numbered_so number [] = []
numbered_so number (pair ∷ pairs) = if pair.0 == number then pair.1 ∷ numbered_so number pairs else numbered_so number pairs

-- lists merged into one in any way that keeps the order of each
pub record IsMerging {A : Type 0} (lists : List (List A)) (merged : List A) : Type 0 where
  -- each call with the number of its list, from 0
  pub numbered : List (ℕ × A)
  pub all : merged ≡ map (λ pair. pair.1) numbered
  pub each : (number : ℕ) → numbered_so number numbered ≡ unwrap_or (slice_get lists number) []

-- the calls of a plan, those of different copies merged in any way
pub record ArePlanCalls (root : List ℕ) (plan : Plan) (to : Tree (List ℕ)) (made : List Call) : Type 0 where
  pub copied : List Call
  pub merging : IsMerging (all_copy_calls root plan to) copied
  pub all : made ≡ move_calls root plan ++ (copied ++ last_call root plan ∷ [])

-- the calls of a plan where one lane makes them: the copies come in their order
abbrev pub plan_calls : List ℕ → Plan → Tree (List ℕ) → List Call
plan_calls root plan to = move_calls root plan ++ (flat_map (λ calls. calls) (all_copy_calls root plan to) ++ last_call root plan ∷ [])

-- one list is the front of another, and this is the rest
pub record IsFront {A : Type 0} (front whole : List A) : Type 0 where
  pub rest : List A
  pub all : front ++ rest ≡ whole

-- each list is the front of the one at its place
abbrev pub AreFronts : {A : Type 0} → List (List A) → List (List A) → Type 0
AreFronts [] [] = ⊤
AreFronts [] (whole ∷ wholes) = ⊥
AreFronts (front ∷ fronts) [] = ⊥
AreFronts (front ∷ fronts) (whole ∷ wholes) = IsFront front whole × AreFronts fronts wholes

-- the calls of a plan, from which some are left out: where one is, so are all that come behind it
pub record ArePartPlanCalls (root : List ℕ) (plan : Plan) (to : Tree (List ℕ)) (made : List Call) : Type 0 where
  pub moves : List Call
  pub fronts : List (List Call)
  pub copied : List Call
  pub last : List Call
  pub all : made ≡ moves ++ (copied ++ last)
  pub moved : IsFront moves (move_calls root plan)
  pub copies : AreFronts fronts (all_copy_calls root plan to)
  pub merging : IsMerging fronts copied
  pub ended : IsFront last (last_call root plan ∷ [])
  -- copies come behind all moves, and the temporary directory goes behind all copies
  pub behind_moves : copied ++ last ≢ [] → moves ≡ move_calls root plan
  pub behind_copies : last ≢ [] → fronts ≡ all_copy_calls root plan to

-- ---- limits of paths

abbrev pub bad_path : List ℕ → Result Path Refusal → Option (List ℕ)
bad_path text (Ok path) = None
bad_path text (Err why) = Some text

-- the texts of paths of these calls that pass a limit, in the calls' order
abbrev pub bad_paths : List Call → List (List ℕ)
bad_paths calls = filter_map (λ text. bad_path text (path_of text)) (flat_map paths_in calls)

-- ---- equal trees

-- paths with what stands there, but for ids, modes and stamps
abbrev pub content : {B : Type 0} → Tree B → List (Names × Body B)
content tree = map (λ place. (place.0, place.1.body)) tree

-- two trees are equal where they have the same paths, kinds and bytes
abbrev pub AreEqual : {B : Type 0} → Tree B → Tree B → Type 0
AreEqual a b = content a ≡ content b
