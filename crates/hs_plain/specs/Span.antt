-- What else goes on while a sync is at work, as the two journals tell it.
use Rattle.std.specs.Prelude.{◌≡◌, ℕ, ◌<◌, ◌≤◌, Bool, true, false, ◌&&◌, ◌||◌, ◌==◌, bytes_eq, List, [], ◌∷◌, take, slice_get, Option, Some, None}
use Rattle.std.specs.List.{list_any, starts_with}
use Rattle.hs_types.specs.Paths.{components}
use Rattle.hs_types.specs.declared.ids.CallerId.{CallerId}
use Rattle.hs_types.specs.declared.ids.SnapId.{SnapId}
use Rattle.hs_types.specs.declared.call.Call.{Call}
use Rattle.hs_types.specs.declared.call.Call.TheVariants as calls
use Rattle.hs_types.specs.declared.journal.Entry.{Entry}
use Rattle.hs_plain.specs.declared.state.State.{State}
use Rattle.hs_plain.specs.Asked.{some_asked}
use Rattle.hs_plain.specs.Snapshotting.{snap_del_at, snap_ren_at}
use Rattle.hs_plain.specs.Change.{is_accepted}
use Rattle.hs_plain.specs.Replay.{plain_after}

-- ---- which entries touch a directory

-- the texts of the paths of a call
abbrev pub paths_in : Call → List (List ℕ)
paths_in (calls.Mkdir path) = path ∷ []
paths_in (calls.Create path over) = path ∷ []
paths_in (calls.Append path bytes) = path ∷ []
paths_in (calls.Delete path recursive) = path ∷ []
paths_in (calls.Rename old new) = old ∷ new ∷ []
paths_in (calls.SetMode path mode) = path ∷ []
paths_in (calls.Allow path) = path ∷ []
paths_in (calls.Disallow path) = path ∷ []
paths_in (calls.Snap path name) = path ∷ []
paths_in (calls.SnapDel path name) = path ∷ []
paths_in (calls.SnapRen path old new) = path ∷ []
paths_in (calls.Read path offset len) = path ∷ []
paths_in (calls.ReadNext cursor len) = []
paths_in (calls.Stat path) = path ∷ []
paths_in (calls.List path size) = path ∷ []
paths_in (calls.ListNext cursor size) = []
paths_in (calls.Snaps path) = path ∷ []
paths_in calls.Dirs = []
paths_in (calls.Report path from to size) = path ∷ []
paths_in (calls.ReportNext cursor size) = []

-- one path is the other, below it or above it
abbrev pub is_near : List ℕ → List ℕ → Bool
is_near root path = starts_with bytes_eq (components path) (components root) || starts_with bytes_eq (components root) (components path)

-- an entry touches a root where one of its paths is the root, below it or above it
abbrev pub touches : List ℕ → Entry → Bool
touches root entry = list_any (is_near root) (paths_in entry.call)

-- ---- spans

-- the indexes of entries in a journal, from `low` on and below `high`
pub record Span : Type 0 where
  pub low : ℕ
  pub high : ℕ

-- an entry with its index in the journal, which is in the span
pub record IsInSpan (journal : List Entry) (span : Span) (index : ℕ) (entry : Entry) : Type 0 where
  pub from : span.low ≤ index
  pub below : index < span.high
  pub there : slice_get journal index ≡ Some entry

abbrev pub is_one_of : List CallerId → CallerId → Bool
is_one_of callers caller = list_any (λ other. other.0 == caller.0) callers

-- nobody else writes: each entry in the span that touches the root is one of these callers'
abbrev pub IsQuiet : List Entry → Span → List ℕ → List CallerId → Type 0
IsQuiet journal span root callers = (index : ℕ) (entry : Entry) → IsInSpan journal span index entry → touches root entry ≡ true → is_one_of callers entry.caller ≡ true

-- ---- snapshots that stay

-- the snapshot that a call takes away or gives another name
abbrev pub parted_by : {B : Type 0} → State B → Call → Option SnapId
parted_by state (calls.SnapDel path name) = some_asked (snap_del_at state path name)
parted_by state (calls.SnapRen path old new) = some_asked (snap_ren_at state path old new)
parted_by state call = None

abbrev pub is_that : SnapId → Option SnapId → Bool
is_that snapshot None = false
is_that snapshot (Some other) = other.0 == snapshot.0

-- whether an entry takes this snapshot away, or gives it another name
abbrev pub takes_away : {B : Type 0} → State B → SnapId → Entry → Bool
takes_away state snapshot entry = is_accepted entry.kind && is_that snapshot (parted_by state entry.call)

-- no entry in the span takes the snapshot away or gives it another name
abbrev pub Stays : List Entry → Span → SnapId → Type 0
Stays journal span snapshot = (index : ℕ) (entry : Entry) → IsInSpan journal span index entry → takes_away (plain_after (take index journal)) snapshot entry ≡ false
