-- Worked examples of syncs: the report between two snapshots, the plan, and what its calls make of the target.
use Rattle.std.specs.Prelude.{◌≡◌, ℕ, codes, true, false, List, [], ◌∷◌, ◌++◌, map, Some, None}
use Rattle.hs_types.specs.Names.{Names}
use Rattle.hs_types.specs.declared.call.Call.{Call}
use Rattle.hs_types.specs.declared.call.Call.TheVariants as calls
use Rattle.hs_types.specs.declared.call.Point.TheVariants.{Snapshot}
use Rattle.hs_types.specs.declared.reply.Reply.TheVariants as replies
use Rattle.hs_types.specs.declared.reply.Line.{Line}
use Rattle.hs_types.specs.declared.reply.LineKind.TheVariants.{Deleted, Renamed, Modified, Created}
use Rattle.hs_plain.specs.declared.plan.Plan.{Plan}
use Rattle.hs_plain.specs.declared.plan.Listing.{Listing}
use Rattle.hs_plain.specs.declared.plan.Put.TheVariants.{Back, NewDir}
use Rattle.hs_plain.specs.Tree.{Tree, subtree}
use Rattle.hs_plain.specs.Reading.{copied_tree}
use Rattle.hs_plain.specs.Replay.{plain_after}
use Rattle.hs_plain.specs.Plan.{translate, translate_created, root_names, plan_of, listings_of, plan_calls, AreEqual}
use Rattle.hs_plain.specs.worked.Calls.{Told, AreTold, journal_of, made_node, made_snapshot, listed_dir, listed_file, whole_page, whole_bytes, whole_report, reported_dir, reported_file}

-- the copied tree of a snapshot after these calls
abbrev pub copy_after : List Call → ℕ → Tree (List ℕ)
copy_after asked snapshot = copied_tree (plain_after (journal_of asked)).members (record { 0 = snapshot })

-- the tree below `/r` after these calls
abbrev pub tree_after : List Call → Tree (List ℕ)
tree_after asked = subtree (plain_after (journal_of asked)).tree (codes "r" ∷ [])

-- a sync of `/r` from the source's first snapshot to its second, on a target that was asked the same up to the first
pub record IsSynced (before after : List Call) (told : List Told) (listings : List Listing) (plan : Plan) (synced shown : List Call) (target_told : List Told) : Type 0 where
  -- what the source is told
  pub source : AreTold (before ++ after) told
  -- the new directories that are listed between its two snapshots
  pub listed : listings_of (copy_after (before ++ after) 1) (copy_after (before ++ after) 2) ≡ listings
  -- the plan between them
  pub planned : plan_of (copy_after (before ++ after) 1) (copy_after (before ++ after) 2) (root_names (copy_after before 1)) ≡ plan
  -- the calls that the sync makes
  pub calls_made : plan_calls (codes "/r") plan (copy_after (before ++ after) 2) ≡ synced
  -- each of them leaves its entry, in this order
  pub entered : map (λ entry. entry.call) (journal_of (before ++ synced)) ≡ before ++ synced
  -- what the target is told
  pub target : AreTold (before ++ (synced ++ shown)) target_told
  -- after the sync it is equal to the second snapshot
  pub equal : AreEqual (tree_after (before ++ synced)) (copy_after (before ++ after) 2)

-- ---- a rename beside a new file of the old name

abbrev pub beside_before : List Call
beside_before =
    calls.Mkdir (codes "/r")
    ∷ calls.Mkdir (codes "/r/a")
    ∷ calls.Mkdir (codes "/r/b")
    ∷ calls.Create (codes "/r/a/x") false
    ∷ calls.Append (codes "/r/a/x") (codes "1")
    ∷ calls.Allow (codes "/r")
    ∷ calls.Snap (codes "/r") (codes "A")
    ∷ []

abbrev pub beside_after : List Call
beside_after =
    calls.Rename (codes "/r/a/x") (codes "/r/b/x")
    ∷ calls.Create (codes "/r/a/x") false
    ∷ calls.Append (codes "/r/a/x") (codes "2")
    ∷ calls.Snap (codes "/r") (codes "B")
    ∷ calls.Report (codes "/r") (Snapshot (codes "A")) (Snapshot (codes "B")) 1000
    ∷ []

-- what both sides are told up to the first snapshot
abbrev pub beside_first : List Told
beside_first =
    (0, made_node 2)
    ∷ (1, made_node 3)
    ∷ (2, made_node 4)
    ∷ (3, made_node 5)
    ∷ (4, replies.Done)
    ∷ (5, replies.Done)
    ∷ (6, made_snapshot 1)
    ∷ []

abbrev pub beside_lines : List Line
beside_lines =
    reported_dir Modified (codes "a" ∷ []) None 3
    ∷ reported_file Renamed (codes "a" ∷ codes "x" ∷ []) (Some (codes "b" ∷ codes "x" ∷ [])) 5
    ∷ reported_file Created (codes "a" ∷ codes "x" ∷ []) None 6
    ∷ reported_dir Modified (codes "b" ∷ []) None 4
    ∷ []

abbrev pub beside_told : List Told
beside_told =
    (7, replies.Done)
    ∷ (8, made_node 6)
    ∷ (9, replies.Done)
    ∷ (10, made_snapshot 2)
    ∷ (11, whole_report beside_lines)
    ∷ []

abbrev pub beside_plan : Plan
beside_plan = record {
  tmp = codes ".distcp.diff.tmp";
  outs = (codes "a" ∷ codes "x" ∷ []) ∷ [];
  puts = Back 0 (codes "b" ∷ codes "x" ∷ []) ∷ [];
  copies = record { id = record { 0 = 6 }; to = codes "a" ∷ codes "x" ∷ [] } ∷ [];
}

abbrev pub beside_synced : List Call
beside_synced =
    calls.Mkdir (codes "/r/.distcp.diff.tmp")
    ∷ calls.Rename (codes "/r/a/x") (codes "/r/.distcp.diff.tmp/0")
    ∷ calls.Rename (codes "/r/.distcp.diff.tmp/0") (codes "/r/b/x")
    ∷ calls.Create (codes "/r/a/x") true
    ∷ calls.Append (codes "/r/a/x") (codes "2")
    ∷ calls.Delete (codes "/r/.distcp.diff.tmp") true
    ∷ []

abbrev pub beside_shown : List Call
beside_shown = calls.Read (codes "/r/a/x") 0 65536 ∷ calls.Read (codes "/r/b/x") 0 65536 ∷ []

abbrev pub beside_target_told : List Told
beside_target_told =
    (7, made_node 6)
    ∷ (8, replies.Done)
    ∷ (9, replies.Done)
    ∷ (10, made_node 7)
    ∷ (11, replies.Done)
    ∷ (12, replies.Done)
    ∷ (13, whole_bytes (codes "2"))
    ∷ (13, whole_bytes (codes "1"))
    ∷ []

-- a file moves, and a new one takes its name: the first is moved on the target too, and the second alone is copied
abbrev pub RenameBeside : Type 0
RenameBeside = IsSynced beside_before beside_after (beside_first ++ beside_told) [] beside_plan beside_synced beside_shown (beside_first ++ beside_target_told)

-- ---- swapped directories, and a child of a deleted one

abbrev pub swapped_before : List Call
swapped_before =
    calls.Mkdir (codes "/r")
    ∷ calls.Mkdir (codes "/r/p")
    ∷ calls.Create (codes "/r/p/1") false
    ∷ calls.Mkdir (codes "/r/q")
    ∷ calls.Create (codes "/r/q/2") false
    ∷ calls.Mkdir (codes "/r/d")
    ∷ calls.Create (codes "/r/d/k") false
    ∷ calls.Allow (codes "/r")
    ∷ calls.Snap (codes "/r") (codes "a")
    ∷ []

abbrev pub swapped_after : List Call
swapped_after =
    calls.Rename (codes "/r/p") (codes "/r/u")
    ∷ calls.Rename (codes "/r/q") (codes "/r/p")
    ∷ calls.Rename (codes "/r/u") (codes "/r/q")
    ∷ calls.Rename (codes "/r/d/k") (codes "/r/k")
    ∷ calls.Delete (codes "/r/d") true
    ∷ calls.Snap (codes "/r") (codes "b")
    ∷ calls.Report (codes "/r") (Snapshot (codes "a")) (Snapshot (codes "b")) 1000
    ∷ []

abbrev pub swapped_first : List Told
swapped_first =
    (0, made_node 2)
    ∷ (1, made_node 3)
    ∷ (2, made_node 4)
    ∷ (3, made_node 5)
    ∷ (4, made_node 6)
    ∷ (5, made_node 7)
    ∷ (6, made_node 8)
    ∷ (7, replies.Done)
    ∷ (8, made_snapshot 1)
    ∷ []

abbrev pub swapped_lines : List Line
swapped_lines =
    reported_dir Modified [] None 2
    ∷ reported_dir Deleted (codes "d" ∷ []) None 7
    ∷ reported_file Renamed (codes "d" ∷ codes "k" ∷ []) (Some (codes "k" ∷ [])) 8
    ∷ reported_dir Renamed (codes "p" ∷ []) (Some (codes "q" ∷ [])) 3
    ∷ reported_dir Renamed (codes "q" ∷ []) (Some (codes "p" ∷ [])) 5
    ∷ []

abbrev pub swapped_told : List Told
swapped_told =
    (9, replies.Done)
    ∷ (10, replies.Done)
    ∷ (11, replies.Done)
    ∷ (12, replies.Done)
    ∷ (13, replies.Done)
    ∷ (14, made_snapshot 2)
    ∷ (15, whole_report swapped_lines)
    ∷ []

abbrev pub swapped_plan : Plan
swapped_plan = record {
  tmp = codes ".distcp.diff.tmp";
  outs = (codes "q" ∷ []) ∷ (codes "p" ∷ []) ∷ (codes "d" ∷ codes "k" ∷ []) ∷ (codes "d" ∷ []) ∷ [];
  puts = Back 2 (codes "k" ∷ []) ∷ Back 0 (codes "p" ∷ []) ∷ Back 1 (codes "q" ∷ []) ∷ [];
  copies = [];
}

abbrev pub swapped_synced : List Call
swapped_synced =
    calls.Mkdir (codes "/r/.distcp.diff.tmp")
    ∷ calls.Rename (codes "/r/q") (codes "/r/.distcp.diff.tmp/0")
    ∷ calls.Rename (codes "/r/p") (codes "/r/.distcp.diff.tmp/1")
    ∷ calls.Rename (codes "/r/d/k") (codes "/r/.distcp.diff.tmp/2")
    ∷ calls.Rename (codes "/r/d") (codes "/r/.distcp.diff.tmp/3")
    ∷ calls.Rename (codes "/r/.distcp.diff.tmp/2") (codes "/r/k")
    ∷ calls.Rename (codes "/r/.distcp.diff.tmp/0") (codes "/r/p")
    ∷ calls.Rename (codes "/r/.distcp.diff.tmp/1") (codes "/r/q")
    ∷ calls.Delete (codes "/r/.distcp.diff.tmp") true
    ∷ []

abbrev pub swapped_shown : List Call
swapped_shown = calls.List (codes "/r") 1000 ∷ []

abbrev pub swapped_target_told : List Told
swapped_target_told =
    (9, made_node 9)
    ∷ (10, replies.Done)
    ∷ (11, replies.Done)
    ∷ (12, replies.Done)
    ∷ (13, replies.Done)
    ∷ (14, replies.Done)
    ∷ (15, replies.Done)
    ∷ (16, replies.Done)
    ∷ (17, replies.Done)
    ∷ (18, whole_page (listed_file 8 (codes "k") ∷ listed_dir 5 (codes "p") ∷ listed_dir 3 (codes "q") ∷ []))
    ∷ []

-- two directories change their names, and a file leaves a directory that is then deleted: all are moved out first, and what
-- is still there comes back at its new place; no byte is copied
abbrev pub Swapped : Type 0
Swapped = IsSynced swapped_before swapped_after (swapped_first ++ swapped_told) [] swapped_plan swapped_synced swapped_shown (swapped_first ++ swapped_target_told)

-- ---- new directories

abbrev pub new_before : List Call
new_before =
    calls.Mkdir (codes "/r")
    ∷ calls.Create (codes "/r/f") false
    ∷ calls.Allow (codes "/r")
    ∷ calls.Snap (codes "/r") (codes "a")
    ∷ []

abbrev pub new_after : List Call
new_after =
    calls.Mkdir (codes "/r/n")
    ∷ calls.Rename (codes "/r/f") (codes "/r/n/f")
    ∷ calls.Create (codes "/r/n/g") false
    ∷ calls.Mkdir (codes "/r/n/m")
    ∷ calls.Create (codes "/r/n/m/h") false
    ∷ calls.Append (codes "/r/n/m/h") (codes "x")
    ∷ calls.Snap (codes "/r") (codes "b")
    ∷ calls.Report (codes "/r") (Snapshot (codes "a")) (Snapshot (codes "b")) 1000
    ∷ []

abbrev pub new_first : List Told
new_first =
    (0, made_node 2)
    ∷ (1, made_node 3)
    ∷ (2, replies.Done)
    ∷ (3, made_snapshot 1)
    ∷ []

-- what stands in a new directory has no line of its own, but for what was moved there
abbrev pub new_lines : List Line
new_lines =
    reported_dir Modified [] None 2
    ∷ reported_file Renamed (codes "f" ∷ []) (Some (codes "n" ∷ codes "f" ∷ [])) 3
    ∷ reported_dir Created (codes "n" ∷ []) None 4
    ∷ []

abbrev pub new_told : List Told
new_told =
    (4, made_node 4)
    ∷ (5, replies.Done)
    ∷ (6, made_node 5)
    ∷ (7, made_node 6)
    ∷ (8, made_node 7)
    ∷ (9, replies.Done)
    ∷ (10, made_snapshot 2)
    ∷ (11, whole_report new_lines)
    ∷ []

abbrev pub new_listings : List Listing
new_listings =
    record { dir = record { 0 = 4 }; items = listed_file 3 (codes "f") ∷ listed_file 5 (codes "g") ∷ listed_dir 6 (codes "m") ∷ [] }
    ∷ record { dir = record { 0 = 6 }; items = listed_file 7 (codes "h") ∷ [] }
    ∷ []

abbrev pub new_plan : Plan
new_plan = record {
  tmp = codes ".distcp.diff.tmp";
  outs = (codes "f" ∷ []) ∷ [];
  puts = NewDir (codes "n" ∷ []) ∷ Back 0 (codes "n" ∷ codes "f" ∷ []) ∷ NewDir (codes "n" ∷ codes "m" ∷ []) ∷ [];
  copies = record { id = record { 0 = 5 }; to = codes "n" ∷ codes "g" ∷ [] } ∷ record { id = record { 0 = 7 }; to = codes "n" ∷ codes "m" ∷ codes "h" ∷ [] } ∷ [];
}

abbrev pub new_synced : List Call
new_synced =
    calls.Mkdir (codes "/r/.distcp.diff.tmp")
    ∷ calls.Rename (codes "/r/f") (codes "/r/.distcp.diff.tmp/0")
    ∷ calls.Mkdir (codes "/r/n")
    ∷ calls.Rename (codes "/r/.distcp.diff.tmp/0") (codes "/r/n/f")
    ∷ calls.Mkdir (codes "/r/n/m")
    ∷ calls.Create (codes "/r/n/g") true
    ∷ calls.Create (codes "/r/n/m/h") true
    ∷ calls.Append (codes "/r/n/m/h") (codes "x")
    ∷ calls.Delete (codes "/r/.distcp.diff.tmp") true
    ∷ []

abbrev pub new_shown : List Call
new_shown = calls.Read (codes "/r/n/m/h") 0 65536 ∷ []

abbrev pub new_target_told : List Told
new_target_told =
    (4, made_node 4)
    ∷ (5, replies.Done)
    ∷ (6, made_node 5)
    ∷ (7, replies.Done)
    ∷ (8, made_node 6)
    ∷ (9, made_node 7)
    ∷ (10, made_node 8)
    ∷ (11, replies.Done)
    ∷ (12, replies.Done)
    ∷ (13, whole_bytes (codes "x"))
    ∷ []

-- a new directory with a moved file, a new file, and a new directory in it: each new one is listed, and then made before what
-- comes into it
abbrev pub NewDirectories : Type 0
NewDirectories = IsSynced new_before new_after (new_first ++ new_told) new_listings new_plan new_synced new_shown (new_first ++ new_target_told)

-- ---- where paths lead

-- the report leads these paths to these
pub record AreLed (lines : List Line) (paths : List (Names × Names)) : Type 0 where
  pub led : map (λ pair. translate lines pair.0) paths ≡ map (λ pair. pair.1) paths

-- a path goes with the longest moved path that it is or stands below, and else stays
abbrev pub SwappedLead : Type 0
SwappedLead = AreLed swapped_lines (
    (codes "p" ∷ codes "1" ∷ [], codes "q" ∷ codes "1" ∷ [])
    ∷ (codes "q" ∷ [], codes "p" ∷ [])
    ∷ (codes "d" ∷ codes "k" ∷ [], codes "k" ∷ [])
    ∷ (codes "z" ∷ [], codes "z" ∷ [])
    ∷ []
    )

-- a new file's parent is led, and its name stays, also where the path that its line shows is moved
abbrev pub CreatedLead : Type 0
CreatedLead = translate_created beside_lines (codes "a" ∷ codes "x" ∷ []) ≡ codes "a" ∷ codes "x" ∷ []
