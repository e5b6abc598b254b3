-- Worked examples of moves: files that leave a snapshot's directory, renamed directories, and moves that are refused.
use Rattle.std.specs.Prelude.{codes, true, false, List, [], ◌∷◌, Some, None}
use Rattle.hs_types.specs.declared.call.Call.{Call}
use Rattle.hs_types.specs.declared.call.Call.TheVariants as calls
use Rattle.hs_types.specs.declared.call.Point.TheVariants.{Snapshot, Now}
use Rattle.hs_types.specs.declared.reply.Reply.TheVariants as replies
use Rattle.hs_types.specs.declared.reply.LineKind.TheVariants.{Deleted, Renamed, Modified, Created}
use Rattle.hs_types.specs.declared.refusal.Refusal.TheVariants.{NotEmpty, HasSnapshots, IntoItself, Nested}
use Rattle.hs_plain.specs.worked.Calls.{Told, AreTold, made_node, made_snapshot, whole_bytes, whole_report, reported_dir, reported_file}

-- ---- a file moved out

abbrev pub moved_out_calls : List Call
moved_out_calls =
    calls.Mkdir (codes "/r")
    ∷ calls.Mkdir (codes "/out")
    ∷ calls.Create (codes "/r/x") false
    ∷ calls.Append (codes "/r/x") (codes "ab")
    ∷ calls.Allow (codes "/r")
    ∷ calls.Snap (codes "/r") (codes "s")
    ∷ calls.Rename (codes "/r/x") (codes "/out/x")
    ∷ calls.Append (codes "/out/x") (codes "cd")
    ∷ calls.Read (codes "/r/.snapshot/s/x") 0 65536
    ∷ calls.Read (codes "/out/x") 0 65536
    ∷ calls.Report (codes "/r") (Snapshot (codes "s")) Now 1000
    ∷ []

abbrev pub moved_out_told : List Told
moved_out_told =
    (0, made_node 2)
    ∷ (1, made_node 3)
    ∷ (2, made_node 4)
    ∷ (3, replies.Done)
    ∷ (4, replies.Done)
    ∷ (5, made_snapshot 1)
    ∷ (6, replies.Done)
    ∷ (7, replies.Done)
    ∷ (8, whole_bytes (codes "ab"))
    ∷ (8, whole_bytes (codes "abcd"))
    ∷ (8, whole_report (reported_dir Modified [] None 2 ∷ reported_file Deleted (codes "x" ∷ []) None 4 ∷ []))
    ∷ []

-- a file that was moved out keeps in the snapshot the bytes that it had, and is gone in the report
abbrev pub MovedOut : Type 0
MovedOut = AreTold moved_out_calls moved_out_told

-- ---- a renamed directory

abbrev pub renamed_calls : List Call
renamed_calls =
    calls.Mkdir (codes "/r")
    ∷ calls.Mkdir (codes "/r/foo")
    ∷ calls.Create (codes "/r/foo/bar") false
    ∷ calls.Allow (codes "/r")
    ∷ calls.Snap (codes "/r") (codes "s0")
    ∷ calls.Rename (codes "/r/foo") (codes "/r/foo2")
    ∷ calls.Append (codes "/r/foo2/bar") (codes "x")
    ∷ calls.Snap (codes "/r") (codes "s1")
    ∷ calls.Report (codes "/r") (Snapshot (codes "s0")) (Snapshot (codes "s1")) 1000
    ∷ calls.Report (codes "/r") (Snapshot (codes "s1")) (Snapshot (codes "s0")) 1000
    ∷ []

abbrev pub renamed_told : List Told
renamed_told =
    (0, made_node 2)
    ∷ (1, made_node 3)
    ∷ (2, made_node 4)
    ∷ (3, replies.Done)
    ∷ (4, made_snapshot 1)
    ∷ (5, replies.Done)
    ∷ (6, replies.Done)
    ∷ (7, made_snapshot 2)
    ∷ (8, whole_report (reported_dir Modified [] None 2 ∷ reported_dir Renamed (codes "foo" ∷ []) (Some (codes "foo2" ∷ [])) 3 ∷ reported_file Modified (codes "foo" ∷ codes "bar" ∷ []) None 4 ∷ []))
    ∷ (8, whole_report (reported_dir Modified [] None 2 ∷ reported_dir Renamed (codes "foo2" ∷ []) (Some (codes "foo" ∷ [])) 3 ∷ reported_file Modified (codes "foo2" ∷ codes "bar" ∷ []) None 4 ∷ []))
    ∷ []

-- a file below a renamed directory keeps its place there: its line says what changed in it, at the path that it had
abbrev pub RenamedDirectory : Type 0
RenamedDirectory = AreTold renamed_calls renamed_told

-- ---- a file overwritten by equal bytes

abbrev pub overwritten_calls : List Call
overwritten_calls =
    calls.Mkdir (codes "/r")
    ∷ calls.Allow (codes "/r")
    ∷ calls.Create (codes "/r/f") false
    ∷ calls.Append (codes "/r/f") (codes "abc")
    ∷ calls.Snap (codes "/r") (codes "s0")
    ∷ calls.Append (codes "/r/f") (codes "d")
    ∷ calls.Create (codes "/r/f") true
    ∷ calls.Append (codes "/r/f") (codes "abc")
    ∷ calls.Report (codes "/r") (Snapshot (codes "s0")) Now 1000
    ∷ []

abbrev pub overwritten_told : List Told
overwritten_told =
    (0, made_node 2)
    ∷ (1, replies.Done)
    ∷ (2, made_node 3)
    ∷ (3, replies.Done)
    ∷ (4, made_snapshot 1)
    ∷ (5, replies.Done)
    ∷ (6, made_node 4)
    ∷ (7, replies.Done)
    ∷ (8, whole_report (reported_dir Modified [] None 2 ∷ reported_file Deleted (codes "f" ∷ []) None 3 ∷ reported_file Created (codes "f" ∷ []) None 4 ∷ []))
    ∷ []

-- a file made over another is another file, whatever its bytes: one is gone, and one is new at the same path
abbrev pub Overwritten : Type 0
Overwritten = AreTold overwritten_calls overwritten_told

-- ---- a directory with snapshots

abbrev pub held_calls : List Call
held_calls =
    calls.Mkdir (codes "/p")
    ∷ calls.Mkdir (codes "/p/r")
    ∷ calls.Allow (codes "/p/r")
    ∷ calls.Snap (codes "/p/r") (codes "s")
    ∷ calls.Delete (codes "/p/r") false
    ∷ calls.Delete (codes "/p") true
    ∷ calls.Rename (codes "/p") (codes "/q")
    ∷ calls.Rename (codes "/p/r") (codes "/p/r/x")
    ∷ calls.Disallow (codes "/p/r")
    ∷ calls.Delete (codes "/p") false
    ∷ []

abbrev pub held_told : List Told
held_told =
    (0, made_node 2)
    ∷ (1, made_node 3)
    ∷ (2, replies.Done)
    ∷ (3, made_snapshot 1)
    ∷ (4, replies.Refused HasSnapshots)
    ∷ (4, replies.Refused HasSnapshots)
    ∷ (4, replies.Refused HasSnapshots)
    ∷ (4, replies.Refused HasSnapshots)
    ∷ (4, replies.Refused HasSnapshots)
    ∷ (4, replies.Refused NotEmpty)
    ∷ []

-- a directory with snapshots is neither deleted nor moved, nor is one above it; that it has children comes first
abbrev pub HeldInPlace : Type 0
HeldInPlace = AreTold held_calls held_told

-- ---- nested directories

abbrev pub nested_calls : List Call
nested_calls =
    calls.Mkdir (codes "/a")
    ∷ calls.Mkdir (codes "/a/b")
    ∷ calls.Mkdir (codes "/a/b/c")
    ∷ calls.Allow (codes "/a/b")
    ∷ calls.Allow (codes "/a")
    ∷ calls.Allow (codes "/a/b/c")
    ∷ calls.Allow (codes "/")
    ∷ calls.Allow (codes "/a/b")
    ∷ calls.Mkdir (codes "/d")
    ∷ calls.Allow (codes "/d")
    ∷ calls.Rename (codes "/d") (codes "/a/b/d")
    ∷ calls.Rename (codes "/a") (codes "/a/x")
    ∷ calls.Disallow (codes "/d")
    ∷ []

abbrev pub nested_told : List Told
nested_told =
    (0, made_node 2)
    ∷ (1, made_node 3)
    ∷ (2, made_node 4)
    ∷ (3, replies.Done)
    ∷ (4, replies.Refused Nested)
    ∷ (4, replies.Refused Nested)
    ∷ (4, replies.Refused Nested)
    ∷ (4, replies.Done)
    ∷ (5, made_node 5)
    ∷ (6, replies.Done)
    ∷ (7, replies.Refused Nested)
    ∷ (7, replies.Refused IntoItself)
    ∷ (7, replies.Done)
    ∷ []

-- a snapshottable directory comes to lie neither below another nor above one, by no call
abbrev pub NestedNowhere : Type 0
NestedNowhere = AreTold nested_calls nested_told
