-- Worked examples of snapshots that are deleted, renamed or listed page by page, and of a report that is moved.
use Rattle.std.specs.Prelude.{ℕ, codes, false, List, [], ◌∷◌, ◌++◌, Some, None}
use Rattle.hs_types.specs.declared.call.Call.{Call}
use Rattle.hs_types.specs.declared.call.Call.TheVariants as calls
use Rattle.hs_types.specs.declared.call.ListCursor.{ListCursor}
use Rattle.hs_types.specs.declared.call.ReportCursor.{ReportCursor}
use Rattle.hs_types.specs.declared.call.Place.TheVariants as places
use Rattle.hs_types.specs.declared.call.Point.TheVariants.{Snapshot, Now}
use Rattle.hs_types.specs.declared.reply.Reply.TheVariants as replies
use Rattle.hs_types.specs.declared.reply.LineKind.TheVariants.{Deleted, Modified, Created}
use Rattle.hs_types.specs.declared.refusal.Refusal.TheVariants.{NotFound, Gone, Moved}
use Rattle.hs_plain.specs.worked.Calls.{Told, AreTold, made_node, made_snapshot, listed_dir, listed_file, whole_page, whole_report, reported_dir, reported_file}

-- ---- the snapshot in the middle deleted

abbrev pub middle_calls : List Call
middle_calls =
    calls.Mkdir (codes "/r")
    ∷ calls.Allow (codes "/r")
    ∷ calls.Create (codes "/r/a") false
    ∷ calls.Snap (codes "/r") (codes "s1")
    ∷ calls.Create (codes "/r/b") false
    ∷ calls.Snap (codes "/r") (codes "s2")
    ∷ calls.Delete (codes "/r/a") false
    ∷ calls.Snap (codes "/r") (codes "s3")
    ∷ calls.Create (codes "/r/c") false
    ∷ calls.SnapDel (codes "/r") (codes "s2")
    ∷ calls.List (codes "/r/.snapshot/s1") 1000
    ∷ calls.List (codes "/r/.snapshot/s3") 1000
    ∷ calls.List (codes "/r/.snapshot/s2") 1000
    ∷ calls.List (codes "/r") 1000
    ∷ calls.Report (codes "/r") (Snapshot (codes "s1")) (Snapshot (codes "s3")) 1000
    ∷ []

abbrev pub middle_told : List Told
middle_told =
    (0, made_node 2)
    ∷ (1, replies.Done)
    ∷ (2, made_node 3)
    ∷ (3, made_snapshot 1)
    ∷ (4, made_node 4)
    ∷ (5, made_snapshot 2)
    ∷ (6, replies.Done)
    ∷ (7, made_snapshot 3)
    ∷ (8, made_node 5)
    ∷ (9, replies.Done)
    ∷ (10, whole_page (listed_file 3 (codes "a") ∷ []))
    ∷ (10, whole_page (listed_file 4 (codes "b") ∷ []))
    ∷ (10, replies.Refused NotFound)
    ∷ (10, whole_page (listed_file 4 (codes "b") ∷ listed_file 5 (codes "c") ∷ []))
    ∷ (10, whole_report (reported_dir Modified [] None 2 ∷ reported_file Deleted (codes "a" ∷ []) None 3 ∷ reported_file Created (codes "b" ∷ []) None 4 ∷ []))
    ∷ []

-- a snapshot that is deleted takes nothing from those before and after it
abbrev pub MiddleDeleted : Type 0
MiddleDeleted = AreTold middle_calls middle_told

-- ---- pages of two items

-- a page of `/r` as it is frozen in a snapshot, behind a name
abbrev pub frozen_cursor : ℕ → List ℕ → ListCursor
frozen_cursor snapshot name = record { place = places.Frozen (record { 0 = 2 }) (record { 0 = snapshot }); after = Some name }

abbrev pub paged_calls : List Call
paged_calls =
    calls.Mkdir (codes "/r")
    ∷ calls.Create (codes "/r/a") false
    ∷ calls.Create (codes "/r/b") false
    ∷ calls.Create (codes "/r/c") false
    ∷ calls.Create (codes "/r/d") false
    ∷ calls.Create (codes "/r/e") false
    ∷ calls.Allow (codes "/r")
    ∷ calls.Snap (codes "/r") (codes "s0")
    ∷ calls.List (codes "/r/.snapshot/s0") 2
    ∷ calls.SnapDel (codes "/r") (codes "s0")
    ∷ calls.ListNext (frozen_cursor 1 (codes "b")) 2
    ∷ calls.Snap (codes "/r") (codes "s0")
    ∷ calls.List (codes "/r/.snapshot/s0") 2
    ∷ calls.SnapDel (codes "/r") (codes "s0")
    ∷ calls.Snap (codes "/r") (codes "s0")
    ∷ calls.ListNext (frozen_cursor 2 (codes "b")) 2
    ∷ calls.List (codes "/r/.snapshot/s0") 2
    ∷ calls.SnapRen (codes "/r") (codes "s0") (codes "s9")
    ∷ calls.ListNext (frozen_cursor 3 (codes "b")) 2
    ∷ calls.Delete (codes "/r/e") false
    ∷ calls.ListNext (frozen_cursor 3 (codes "d")) 2
    ∷ []

abbrev pub paged_told : List Told
paged_told =
    (0, made_node 2)
    ∷ (1, made_node 3)
    ∷ (2, made_node 4)
    ∷ (3, made_node 5)
    ∷ (4, made_node 6)
    ∷ (5, made_node 7)
    ∷ (6, replies.Done)
    ∷ (7, made_snapshot 1)
    ∷ (8, replies.Page (listed_file 3 (codes "a") ∷ listed_file 4 (codes "b") ∷ []) (Some (frozen_cursor 1 (codes "b"))))
    ∷ (8, replies.Done)
    ∷ (9, replies.Refused Gone)
    ∷ (9, made_snapshot 2)
    ∷ (10, replies.Page (listed_file 3 (codes "a") ∷ listed_file 4 (codes "b") ∷ []) (Some (frozen_cursor 2 (codes "b"))))
    ∷ (10, replies.Done)
    ∷ (11, made_snapshot 3)
    ∷ (12, replies.Refused Gone)
    ∷ (12, replies.Page (listed_file 3 (codes "a") ∷ listed_file 4 (codes "b") ∷ []) (Some (frozen_cursor 3 (codes "b"))))
    ∷ (12, replies.Done)
    ∷ (13, replies.Page (listed_file 5 (codes "c") ∷ listed_file 6 (codes "d") ∷ []) (Some (frozen_cursor 3 (codes "d"))))
    ∷ (13, replies.Done)
    ∷ (14, whole_page (listed_file 7 (codes "e") ∷ []))
    ∷ []

-- a cursor goes with its snapshot, through a new name and changes of the live tree; it is gone with it, also where another
-- snapshot takes the name
abbrev pub PagesOfTwo : Type 0
PagesOfTwo = AreTold paged_calls paged_told

-- ---- a report that is moved

-- the report on `/r` since its first snapshot, begun at a tick
abbrev pub moved_cursor : ℕ → ℕ → ReportCursor
moved_cursor tick index = record { root = record { 0 = 2 }; from = record { 0 = 1 }; to = record { 0 = 0 }; tick = Some tick; index = index }

-- a name of one letter, an `e` with an acute accent
abbrev pub accented : List ℕ
accented = 195 ∷ 169 ∷ []

abbrev pub moved_calls : List Call
moved_calls =
    calls.Mkdir (codes "/r")
    ∷ calls.Allow (codes "/r")
    ∷ calls.Snap (codes "/r") (codes "s0")
    ∷ calls.Mkdir (codes "/r/" ++ accented)
    ∷ calls.Report (codes "/r") (Snapshot (codes "s0")) Now 1
    ∷ calls.Mkdir (codes "/z")
    ∷ calls.ReportNext (moved_cursor 4 1) 1
    ∷ calls.List (codes "/r") 1
    ∷ calls.Snaps (codes "/r")
    ∷ calls.Dirs
    ∷ []

abbrev pub moved_told : List Told
moved_told =
    (0, made_node 2)
    ∷ (1, replies.Done)
    ∷ (2, made_snapshot 1)
    ∷ (3, made_node 3)
    ∷ (4, replies.Report (reported_dir Modified [] None 2 ∷ []) (Some (moved_cursor 4 1)))
    ∷ (4, made_node 4)
    ∷ (5, replies.Refused (Moved 4 5))
    ∷ (5, whole_page (listed_dir 3 accented ∷ []))
    ∷ (5, replies.Snaps (record { 0 = 2 }) (record { id = record { 0 = 1 }; tick = 3; name = codes "s0" } ∷ []))
    ∷ (5, replies.Dirs (record { id = record { 0 = 2 }; count = 1; path = codes "/r" } ∷ []))
    ∷ []

-- a report up to the current state goes on at its tick alone, whatever changed since
abbrev pub MovedReport : Type 0
MovedReport = AreTold moved_calls moved_told
