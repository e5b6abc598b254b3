-- Worked examples of refusals, and of a file whose bytes a snapshot keeps.
use Rattle.std.specs.Prelude.{codes, false, List, [], ◌∷◌}
use Rattle.hs_types.specs.declared.call.Call.{Call}
use Rattle.hs_types.specs.declared.call.Call.TheVariants as calls
use Rattle.hs_types.specs.declared.reply.Reply.TheVariants as replies
use Rattle.hs_types.specs.declared.refusal.Refusal.TheVariants.{BadPath, Reserved, ReadOnly, NotFound, NotFile, Exists, NotSnapshotName, IsRoot, NotSnapshottable}
use Rattle.hs_plain.specs.worked.Calls.{Told, AreTold, made_node, made_snapshot, whole_bytes}

-- ---- refused calls

abbrev pub refused_calls : List Call
refused_calls =
    calls.Mkdir (codes "/a")
    ∷ calls.Mkdir (codes "/a/.snapshot")
    ∷ calls.Create (codes "/a/.snapshot/s0/f") false
    ∷ calls.Mkdir (codes "a")
    ∷ calls.Mkdir (codes "/a//b")
    ∷ calls.Mkdir (codes "/x/y")
    ∷ calls.Mkdir (codes "/a")
    ∷ calls.Mkdir (codes "/")
    ∷ calls.Delete (codes "/") false
    ∷ calls.Read (codes "/a") 0 65536
    ∷ calls.Snap (codes "/a") (codes ".")
    ∷ calls.Snap (codes "/a") (codes "s")
    ∷ []

abbrev pub refused_told : List Told
refused_told =
    (0, made_node 2)
    ∷ (1, replies.Refused Reserved)
    ∷ (1, replies.Refused ReadOnly)
    ∷ (1, replies.Refused BadPath)
    ∷ (1, replies.Refused BadPath)
    ∷ (1, replies.Refused NotFound)
    ∷ (1, replies.Refused Exists)
    ∷ (1, replies.Refused Exists)
    ∷ (1, replies.Refused IsRoot)
    ∷ (1, replies.Refused NotFile)
    ∷ (1, replies.Refused NotSnapshotName)
    ∷ (1, replies.Refused NotSnapshottable)
    ∷ []

-- a refused call leaves no entry
abbrev pub RefusedCalls : Type 0
RefusedCalls = AreTold refused_calls refused_told

-- ---- a file that grows behind a snapshot

abbrev pub grown_calls : List Call
grown_calls =
    calls.Mkdir (codes "/r")
    ∷ calls.Create (codes "/r/f") false
    ∷ calls.Append (codes "/r/f") (codes "ab")
    ∷ calls.Allow (codes "/r")
    ∷ calls.Snap (codes "/r") (codes "s0")
    ∷ calls.Append (codes "/r/f") (codes "cd")
    ∷ calls.Read (codes "/r/f") 0 65536
    ∷ calls.Read (codes "/r/.snapshot/s0/f") 0 65536
    ∷ []

abbrev pub grown_told : List Told
grown_told =
    (0, made_node 2)
    ∷ (1, made_node 3)
    ∷ (2, replies.Done)
    ∷ (3, replies.Done)
    ∷ (4, made_snapshot 1)
    ∷ (5, replies.Done)
    ∷ (6, whole_bytes (codes "abcd"))
    ∷ (6, whole_bytes (codes "ab"))
    ∷ []

-- the snapshot has the bytes that the file had
abbrev pub GrownBehind : Type 0
GrownBehind = AreTold grown_calls grown_told
