-- What calls by a path and by cursors show of snapshots that are live.
use Rattle.std.specs.Prelude.{◌≡◌, ◌↔◌, ℕ, true, ◌||◌, bytes_eq, if◌then◌else◌, List, [], ◌∷◌, take, Option, Some, None, Ok}
use Rattle.hs_types.specs.Names.{Names}
use Rattle.hs_types.specs.declared.ids.InodeId.{InodeId}
use Rattle.hs_types.specs.declared.ids.SnapId.{SnapId}
use Rattle.hs_types.specs.declared.name.SnapItem.{SnapItem}
use Rattle.hs_types.specs.declared.call.Call.TheVariants as calls
use Rattle.hs_types.specs.declared.call.ListCursor.{ListCursor}
use Rattle.hs_types.specs.declared.call.ReadCursor.{ReadCursor}
use Rattle.hs_types.specs.declared.call.ReportCursor.{ReportCursor}
use Rattle.hs_types.specs.declared.call.Place.{Place}
use Rattle.hs_types.specs.declared.call.Place.TheVariants as places
use Rattle.hs_types.specs.declared.reply.Reply.{Reply}
use Rattle.hs_types.specs.declared.reply.Reply.TheVariants as replies
use Rattle.hs_types.specs.declared.reply.Line.{Line}
use Rattle.hs_types.specs.declared.refusal.Refusal.TheVariants.{Gone}
use Rattle.hs_plain.specs.declared.state.Node.{Node}
use Rattle.hs_plain.specs.declared.state.Body.TheVariants.{File}
use Rattle.hs_plain.specs.declared.state.Member.{Member}
use Rattle.hs_plain.specs.declared.state.State.{State}
use Rattle.hs_plain.specs.Asked.{some_asked}
use Rattle.hs_plain.specs.Tree.{is_dir, listing, place_of}
use Rattle.hs_plain.specs.State.{member_named, member_with, snapshot_named}
use Rattle.hs_plain.specs.Valid.{IsValid}
use Rattle.hs_plain.specs.Pages.{page_of, bytes_page}
use Rattle.hs_plain.specs.Reading.{is_deleted, snapshottable_at, lines_between, began_at, report_page}
use Rattle.hs_plain.specs.Answer.{answer, is_ok_reply}
use Rattle.hs_plain.specs.Joined.{lines_shown}
use Rattle.hs_plain.specs.Premises.{now}

-- ---- a directory's snapshots

-- the id of the first item of this name
abbrev pub id_named : List SnapItem → List ℕ → Option SnapId
id_named [] name = None
id_named (item ∷ items) name = if bytes_eq item.name name then Some item.id else id_named items name

-- items of the snapshots of the directory at a path
pub record ShowsSnaps (state : State (List ℕ)) (path : List ℕ) (dir : InodeId) (items : List SnapItem) : Type 0 where
  -- the directory is the one at the path
  pub root : snapshottable_at state path ≡ Ok dir
  -- a name has the id that it leads to, or none
  pub ids : (name : List ℕ) → id_named items name ≡ some_asked (snapshot_named state.members dir name)
  -- an id under a name is that of the directory's snapshot of this name
  pub sound : (name : List ℕ) (snapshot : SnapId) → id_named items name ≡ Some snapshot → (member : Member (List ℕ)) × (member_named state.members dir name ≡ Ok member) × (member.snapshot ≡ snapshot)
  -- and each snapshot's id is there under its name
  pub complete : (name : List ℕ) (member : Member (List ℕ)) → member_named state.members dir name ≡ Ok member → id_named items name ≡ Some member.snapshot

-- an Ok reply to Snaps shows the snapshots of the directory at its path
abbrev pub SnapsAreShown : Type 0
SnapsAreShown = (state : State (List ℕ)) (path : List ℕ) (dir : InodeId) (items : List SnapItem) → answer state (calls.Snaps path) ≡ replies.Snaps dir items → ShowsSnaps state path dir items

-- and there is one where a snapshottable directory is at the path
abbrev pub SnapsAreOk : Type 0
SnapsAreOk = (state : State (List ℕ)) (path : List ℕ) (dir : InodeId) → snapshottable_at state path ≡ Ok dir → (items : List SnapItem) × (answer state (calls.Snaps path) ≡ replies.Snaps dir items)

-- ---- reports

-- a snapshot of this directory is live under this id
pub record IsSnapshotOf (state : State (List ℕ)) (dir : InodeId) (snapshot : SnapId) : Type 0 where
  pub member : Member (List ℕ)
  pub live : member_with state.members snapshot ≡ Ok member
  pub own : member.directory ≡ dir

-- the cursor of a report that begins
abbrev pub report_start : InodeId → SnapId → SnapId → ReportCursor
report_start dir from to = record { root = dir; from = from; to = to; tick = None; index = 0 }

-- a report between two live snapshots of a directory goes on, wherever its cursor stands
abbrev pub ReportsBetween : Type 0
ReportsBetween = (state : State (List ℕ)) (cursor : ReportCursor) (size : ℕ) → IsValid state → IsSnapshotOf state cursor.root cursor.from → IsSnapshotOf state cursor.root cursor.to →
    answer state (calls.ReportNext cursor size) ≡ report_page state cursor size

-- one from a live snapshot of a directory to the current state goes on if it begins, or began at the tick that is
abbrev pub ReportsToNow : Type 0
ReportsToNow = (state : State (List ℕ)) (cursor : ReportCursor) (size : ℕ) → IsValid state → IsSnapshotOf state cursor.root cursor.from → cursor.to ≡ now → began_at state.tick cursor.tick ≡ state.tick →
    answer state (calls.ReportNext cursor size) ≡ report_page state cursor size

-- an Ok reply with these lines
pub record ShowsLines (reply : Reply) (lines : List Line) : Type 0 where
  pub ok : is_ok_reply reply ≡ true
  pub shown : lines_shown reply ≡ lines

-- the first lines of a report from a live snapshot to the current state
abbrev pub FirstLinesToNow : Type 0
FirstLinesToNow = (state : State (List ℕ)) (dir : InodeId) (from : SnapId) (size : ℕ) → IsValid state → IsSnapshotOf state dir from →
    ShowsLines (answer state (calls.ReportNext (report_start dir from now) size)) (take size (lines_between state dir from now))

-- and of one between two live snapshots
abbrev pub FirstLinesBetween : Type 0
FirstLinesBetween = (state : State (List ℕ)) (dir : InodeId) (from to : SnapId) (size : ℕ) → IsValid state → IsSnapshotOf state dir from → IsSnapshotOf state dir to →
    ShowsLines (answer state (calls.ReportNext (report_start dir from to) size)) (take size (lines_between state dir from to))

-- ---- frozen places

-- a place in a snapshot's tree
abbrev pub frozen : InodeId → SnapId → Place
frozen id snapshot = places.Frozen id snapshot

-- a cursor into a list of items there
abbrev pub list_from : InodeId → SnapId → Option (List ℕ) → ListCursor
list_from id snapshot after = record { place = frozen id snapshot; after = after }

-- a cursor into the bytes there
abbrev pub read_from : InodeId → SnapId → ℕ → ReadCursor
read_from id snapshot offset = record { place = frozen id snapshot; offset = offset }

-- the items of a directory of a live snapshot's tree are listed, from wherever the cursor stands
abbrev pub FrozenDirsAreListed : Type 0
FrozenDirsAreListed = (state : State (List ℕ)) (id : InodeId) (snapshot : SnapId) (member : Member (List ℕ)) (place : Names × Node (List ℕ)) (after : Option (List ℕ)) (size : ℕ) →
    member_with state.members snapshot ≡ Ok member → place_of member.tree id ≡ Some place → is_dir place.1 ≡ true →
    answer state (calls.ListNext (list_from id snapshot after) size) ≡ page_of (frozen id snapshot) (listing member.tree place.0) after size

-- the bytes of a file of a live snapshot's tree are read, from wherever the cursor stands
abbrev pub FrozenFilesAreRead : Type 0
FrozenFilesAreRead = (state : State (List ℕ)) (id : InodeId) (snapshot : SnapId) (member : Member (List ℕ)) (place : Names × Node (List ℕ)) (bytes : List ℕ) (offset len : ℕ) →
    member_with state.members snapshot ≡ Ok member → place_of member.tree id ≡ Some place → place.1.body ≡ File bytes →
    answer state (calls.ReadNext (read_from id snapshot offset) len) ≡ bytes_page (frozen id snapshot) bytes offset len

-- ---- Gone

-- a cursor into a snapshot's tree is refused Gone exactly where the snapshot's id isn't 0 and is no snapshot's
abbrev pub ListsAreGone : Type 0
ListsAreGone = (state : State (List ℕ)) (id : InodeId) (snapshot : SnapId) (after : Option (List ℕ)) (size : ℕ) →
    (answer state (calls.ListNext (list_from id snapshot after) size) ≡ replies.Refused Gone) ↔ (is_deleted state snapshot ≡ true)

abbrev pub ReadsAreGone : Type 0
ReadsAreGone = (state : State (List ℕ)) (id : InodeId) (snapshot : SnapId) (offset len : ℕ) →
    (answer state (calls.ReadNext (read_from id snapshot offset) len) ≡ replies.Refused Gone) ↔ (is_deleted state snapshot ≡ true)

-- and that of a report where this holds of one of its ends
abbrev pub ReportsAreGone : Type 0
ReportsAreGone = (state : State (List ℕ)) (cursor : ReportCursor) (size : ℕ) →
    (answer state (calls.ReportNext cursor size) ≡ replies.Refused Gone) ↔ ((is_deleted state cursor.from || is_deleted state cursor.to) ≡ true)
