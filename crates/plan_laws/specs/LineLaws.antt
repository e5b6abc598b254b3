-- Laws of what lines and listings tell.
use Rattle.std.specs.Prelude.{◌≡◌, ◌++◌, ◌∷◌, [], map, reverse, List, ℕ, true, Option, Some, None}
use Rattle.std.specs.List.{filter, filter_map, AllByRecursion, Contains}
use Rattle.std.specs.FinMap.Entries.{is_sorted}
use Rattle.hs_types.specs.Names.{Names}
use Rattle.hs_types.specs.declared.reply.LineKind.TheVariants.{Created}
use Rattle.hs_plain.specs.declared.plan.Listing.{Listing}
use Rattle.hs_plain.specs.declared.plan.Put.{Put}
use Rattle.hs_plain.specs.declared.state.Node.{Node}
use Rattle.hs_plain.specs.Tree.{Tree, path_cmp, node_at, place_of, is_dir}
use Rattle.hs_plain.specs.Report.{report, created, line_of}
use Rattle.hs_plain.specs.Valid.{all_differ}
use Rattle.hs_plain.specs.Plan.{outs, translate, listings_of, AreEqual}
use Rattle.plan_laws.specs.Pair.{IsPair, HasSameBytes}
use Rattle.plan_laws.specs.Translated.{is_out_line, line_path, renames_id}
use Rattle.plan_laws.specs.Listed.{IsListed, IsNew, all_news, first_news, InOrder}
use Rattle.plan_laws.specs.Sorted.{put_entries, entries, IsListing}

-- a path of a node that both trees have is translated to its path in the second
abbrev pub TranslatesPaths : Type 0
TranslatesPaths = (from to : Tree (List ℕ)) → IsPair from to → (p q : Names) (x m : Node (List ℕ)) → node_at from p ≡ Some x → node_at to q ≡ Some m → x.id.0 ≡ m.id.0 → translate (report from to) p ≡ q

-- the outs are the paths of the deleted and renamed lines, the last first
abbrev pub OutsAreOfLines : Type 0
OutsAreOfLines = (from to : Tree (List ℕ)) → outs from to ≡ reverse (map line_path (filter is_out_line (report from to)))

-- a new node in a directory that was there has a `+` line, whose parent is translated to that directory's path
abbrev pub NewHasLine : Type 0
NewHasLine = (from to : Tree (List ℕ)) → IsPair from to → (t : Names) (n : List ℕ) (m d x : Node (List ℕ)) (dp : Names) → node_at to (t ++ n ∷ []) ≡ Some m → node_at to t ≡ Some d → place_of from m.id ≡ None → place_of from d.id ≡ Some (dp, x) →
    (created from to (t ++ n ∷ [], m) ≡ Some (line_of Created (dp ++ n ∷ []) None m)) × (translate (report from to) dp ++ n ∷ [] ≡ t ++ n ∷ [])

-- a node that was there and stands in a new directory has an `R` line
abbrev pub OldInNewIsRenamed : Type 0
OldInNewIsRenamed = (from to : Tree (List ℕ)) → IsPair from to → (t : Names) (n : List ℕ) (d c : Node (List ℕ)) (old : Names × Node (List ℕ)) → node_at to t ≡ Some d → place_of from d.id ≡ None → node_at to (t ++ n ∷ []) ≡ Some c → place_of from c.id ≡ Some old → renames_id (report from to) c.id ≡ true

-- trees between which a report has no line are equal
abbrev pub NoLineNoChange : Type 0
NoLineNoChange = (from to : Tree (List ℕ)) → IsPair from to → HasSameBytes from to → report from to ≡ [] → AreEqual from to

-- what lines and listings tell to be new is new
abbrev pub NewsAreNew : Type 0
NewsAreNew = (from to : Tree (List ℕ)) → IsPair from to → (listings : List Listing) → AllByRecursion (IsListed from to) listings → AllByRecursion (IsNew from to) (all_news (report from to) listings)

-- and all that is new is told, where each new directory is listed after it was found
abbrev pub NewIsTold : Type 0
NewIsTold = (from to : Tree (List ℕ)) → IsPair from to → (listings : List Listing) → AllByRecursion (IsListed from to) listings → InOrder (report from to) (first_news (report from to)) listings →
    ((t : Names) (d : Node (List ℕ)) → node_at to t ≡ Some d → place_of from d.id ≡ None → is_dir d ≡ true → (one : Listing) × Contains listings one × (d.id.0 ≡ one.dir.0)) →
    (q : Names) (m : Node (List ℕ)) → node_at to q ≡ Some m → place_of from m.id ≡ None → Contains (all_news (report from to) listings) (record { id = m.id; is_dir = is_dir m; path = q })

-- each listing of a plan is of a new directory, and whole
abbrev pub ListingsAreWhole : Type 0
ListingsAreWhole = (from to : Tree (List ℕ)) → IsPair from to → AllByRecursion (IsListed from to) (listings_of from to)

-- none is of the same directory as another
abbrev pub ListingsDiffer : Type 0
ListingsDiffer = (from to : Tree (List ℕ)) → IsPair from to → all_differ (map (λ one. one.dir.0) (listings_of from to)) ≡ true

-- each new directory has one
abbrev pub NewDirIsListed : Type 0
NewDirIsListed = (from to : Tree (List ℕ)) → IsPair from to → (path : Names) (node : Node (List ℕ)) → node_at to path ≡ Some node → place_of from node.id ≡ None → is_dir node ≡ true →
    (one : Listing) × Contains (listings_of from to) one × (node.id.0 ≡ one.dir.0)

-- and stands behind what tells its path
abbrev pub ListingsAreInOrder : Type 0
ListingsAreInOrder = (from to : Tree (List ℕ)) → IsPair from to → InOrder (report from to) (first_news (report from to)) (listings_of from to)

-- so the lines and these listings tell all that is new
abbrev pub ListingsTellAll : Type 0
ListingsTellAll = (from to : Tree (List ℕ)) → IsPair from to → (path : Names) (node : Node (List ℕ)) → node_at to path ≡ Some node → place_of from node.id ≡ None →
    Contains (all_news (report from to) (listings_of from to)) (record { id = node.id; is_dir = is_dir node; path = path })

-- what is put together in any order is the list by rising paths
abbrev pub PutTogetherIsSorted : Type 0
PutTogetherIsSorted = (f : Names × Node (List ℕ) → Option (Put)) (tree : Tree (List ℕ)) (list : List (Names × Put)) → is_sorted path_cmp tree ≡ true → IsListing f tree list → put_entries [] list ≡ entries f tree

-- whose values are those that the tree's places give
abbrev pub SortedHasValues : Type 0
SortedHasValues = (f : Names × Node (List ℕ) → Option (Put)) (tree : Tree (List ℕ)) → map (λ one. one.1) (entries f tree) ≡ filter_map f tree
