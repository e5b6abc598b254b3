-- What lasts while other entries come: snapshots that no entry takes away, their names, and the directories that have them.
use Rattle.std.specs.Prelude.{◌≡◌, ℕ, ◌≤◌, true, false, List, take, Some, Ok}
use Rattle.hs_types.specs.Names.{Names}
use Rattle.hs_types.specs.declared.ids.InodeId.{InodeId}
use Rattle.hs_types.specs.declared.ids.SnapId.{SnapId}
use Rattle.hs_types.specs.declared.journal.Entry.{Entry}
use Rattle.hs_plain.specs.declared.state.Node.{Node}
use Rattle.hs_plain.specs.declared.state.Member.{Member}
use Rattle.hs_plain.specs.declared.state.State.{State}
use Rattle.hs_plain.specs.Tree.{node_at, subtree}
use Rattle.hs_plain.specs.State.{member_named, member_with, snapshot_named}
use Rattle.hs_plain.specs.Modifying.{live_path}
use Rattle.hs_plain.specs.Reading.{is_live, is_deleted, snapshottable_at, lines_between}
use Rattle.hs_plain.specs.Change.{is_accepted}
use Rattle.hs_plain.specs.Replay.{plain_after}
use Rattle.hs_plain.specs.Frozen.{is_snap_del}
use Rattle.hs_plain.specs.Span.{Span, IsInSpan, touches, parted_by, Stays}
use Rattle.hs_plain.specs.Premises.{member_at, now}

-- the state after the first entries of a journal
abbrev pub state_at : List Entry → ℕ → State (List ℕ)
state_at journal index = plain_after (take index journal)

-- from the beginning of a span up to its end
pub record IsWithin (span : Span) (index : ℕ) : Type 0 where
  pub from : span.low ≤ index
  pub up_to : index ≤ span.high

-- a snapshot that is there when a span begins, and that no entry in it takes away or gives another name, is there throughout, the very same
abbrev pub SnapshotsLast : Type 0
SnapshotsLast = (journal : List Entry) (span : Span) (index : ℕ) (snapshot : SnapId) (member : Member (List ℕ)) → IsWithin span index → Stays journal span snapshot →
    member_with (state_at journal span.low).members snapshot ≡ Ok member → member_with (state_at journal index).members snapshot ≡ Ok member

-- so a cursor with its id is never gone
abbrev pub StaysNeverGone : Type 0
StaysNeverGone = (journal : List Entry) (span : Span) (index : ℕ) (snapshot : SnapId) (member : Member (List ℕ)) → IsWithin span index → Stays journal span snapshot →
    member_with (state_at journal span.low).members snapshot ≡ Ok member → is_deleted (state_at journal index) snapshot ≡ false

-- and its name is its own throughout
abbrev pub NamesLast : Type 0
NamesLast = (journal : List Entry) (span : Span) (index : ℕ) (dir : InodeId) (name : List ℕ) (member : Member (List ℕ)) → IsWithin span index → Stays journal span member.snapshot →
    member_named (state_at journal span.low).members dir name ≡ Ok member → member_named (state_at journal index).members dir name ≡ Ok member

-- so a name leads to one id throughout
abbrev pub NamedIdsLast : Type 0
NamedIdsLast = (journal : List Entry) (span : Span) (index : ℕ) (dir : InodeId) (name : List ℕ) (snapshot : SnapId) → IsWithin span index → Stays journal span snapshot →
    snapshot_named (state_at journal span.low).members dir name ≡ Ok snapshot → snapshot_named (state_at journal index).members dir name ≡ Ok snapshot

-- a directory that has a snapshot that stays is at its path, and snapshottable, throughout: neither it nor one above it can be deleted or renamed, nor can it be disallowed
abbrev pub RootsLast : Type 0
RootsLast = (journal : List Entry) (span : Span) (index : ℕ) (text : List ℕ) (dir : InodeId) (snapshot : SnapId) (member : Member (List ℕ)) → IsWithin span index → Stays journal span snapshot →
    member_with (state_at journal span.low).members snapshot ≡ Ok member → member.directory ≡ dir → snapshottable_at (state_at journal span.low) text ≡ Ok dir → snapshottable_at (state_at journal index) text ≡ Ok dir

-- together: a path and a name lead to the very same snapshot throughout
abbrev pub MemberLasts : Type 0
MemberLasts = (journal : List Entry) (span : Span) (index : ℕ) (text name : List ℕ) (member : Member (List ℕ)) → IsWithin span index → Stays journal span member.snapshot →
    member_at (state_at journal span.low) text name ≡ Ok member → member_at (state_at journal index) text name ≡ Ok member

-- ---- a directory that no entry touches

-- a span up to an index in it
abbrev pub front_of : Span → ℕ → Span
front_of span index = record { low = span.low; high = index }

-- no entry in a span touches the directory of this text
abbrev pub IsUntouched : List Entry → Span → List ℕ → Type 0
IsUntouched journal span text = (index : ℕ) (entry : Entry) → IsInSpan journal span index entry → touches text entry ≡ false

-- the same directory is at a path in two states, with the very same tree below it
pub record IsSameBelow (before after : State (List ℕ)) (path : Names) (dir : InodeId) : Type 0 where
  pub node : Node (List ℕ)
  pub was : node_at before.tree path ≡ Some node
  pub is : node_at after.tree path ≡ Some node
  pub same_dir : node.id ≡ dir
  pub same : subtree after.tree path ≡ subtree before.tree path

-- a directory with a snapshot that stays keeps its tree up to an index before which no entry touches it
abbrev pub UntouchedTreesStay : Type 0
UntouchedTreesStay = (journal : List Entry) (span : Span) (index : ℕ) (text : List ℕ) (path : Names) (dir : InodeId) (snapshot : SnapId) (member : Member (List ℕ)) → IsWithin span index → Stays journal span snapshot → IsUntouched journal (front_of span index) text →
    member_with (state_at journal span.low).members snapshot ≡ Ok member → member.directory ≡ dir → snapshottable_at (state_at journal span.low) text ≡ Ok dir → live_path text ≡ Ok path →
    IsSameBelow (state_at journal span.low) (state_at journal index) path dir

-- so the report from the snapshot to the current state stays
abbrev pub UntouchedReportsStay : Type 0
UntouchedReportsStay = (journal : List Entry) (span : Span) (index : ℕ) (text : List ℕ) (dir : InodeId) (snapshot : SnapId) (member : Member (List ℕ)) → IsWithin span index → Stays journal span snapshot → IsUntouched journal (front_of span index) text →
    member_with (state_at journal span.low).members snapshot ≡ Ok member → member.directory ≡ dir → snapshottable_at (state_at journal span.low) text ≡ Ok dir →
    lines_between (state_at journal index) dir snapshot now ≡ lines_between (state_at journal span.low) dir snapshot now

-- ---- a snapshot that is gone

-- an accepted entry of a span is the SnapDel of this snapshot
pub record WasDeleted (journal : List Entry) (span : Span) (snapshot : SnapId) : Type 0 where
  pub index : ℕ
  pub entry : Entry
  pub at : IsInSpan journal span index entry
  pub accepted : is_accepted entry.kind ≡ true
  pub deletes : is_snap_del entry.call ≡ true
  pub its : parted_by (state_at journal index) entry.call ≡ Some snapshot

-- a snapshot that is there when a span begins and isn't when it ends was deleted in it
abbrev pub TakenWasDeleted : Type 0
TakenWasDeleted = (journal : List Entry) (span : Span) (snapshot : SnapId) (member : Member (List ℕ)) → span.low ≤ span.high →
    member_with (state_at journal span.low).members snapshot ≡ Ok member → is_live (state_at journal span.high).members snapshot ≡ false → WasDeleted journal span snapshot

-- so it was where a cursor with its id is gone
abbrev pub GoneWasDeleted : Type 0
GoneWasDeleted = (journal : List Entry) (span : Span) (snapshot : SnapId) (member : Member (List ℕ)) → span.low ≤ span.high →
    member_with (state_at journal span.low).members snapshot ≡ Ok member → is_deleted (state_at journal span.high) snapshot ≡ true → WasDeleted journal span snapshot
