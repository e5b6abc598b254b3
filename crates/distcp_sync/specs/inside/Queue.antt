-- New directories that are listed one after the other, where which ones are new is told by lines alone.
use Rattle.std.specs.Prelude.{◌≡◌, Bool, not, ◌&&◌, if◌then◌else◌, ⊤, List, [], ◌∷◌, ◌++◌, ℕ, Option, Some, None}
use Rattle.std.specs.List.{filter_map}
use Rattle.hs_types.specs.Names.{Names}
use Rattle.hs_types.specs.declared.ids.InodeId.{InodeId}
use Rattle.hs_types.specs.declared.reply.Item.{Item}
use Rattle.hs_types.specs.declared.reply.Line.{Line}
use Rattle.hs_plain.specs.declared.plan.Listing.{Listing}
use Rattle.hs_plain.specs.declared.state.Node.{Node}
use Rattle.hs_plain.specs.Tree.{Tree, node_at, listing}
use Rattle.hs_plain.specs.Report.{report}
use Rattle.hs_plain.specs.Plan.{is_created, listings_of}
use Rattle.plan_laws.specs.Pair.{IsPair}
use Rattle.plan_laws.specs.Translated.{renames_id}

-- a `+` line of a directory
abbrev pub created_dir_id : Line → Option InodeId
created_dir_id line = if is_created line.kind && line.is_dir then Some line.id else None

-- the directories that are listed first: those of the `+` lines, in their order
abbrev pub first_ids : List Line → List InodeId
first_ids lines = filter_map created_dir_id lines

-- an item of a new directory is a new directory where no `R` line has its id
abbrev pub new_dir_id : List Line → Item → Option InodeId
new_dir_id lines item = if item.is_dir && not (renames_id lines item.id) then Some item.id else None

-- the new directories that a listing shows
abbrev pub new_ids : List Line → List Item → List InodeId
new_ids lines items = filter_map (new_dir_id lines) items

-- those that wait are listed one after the other; what a listing shows comes behind those that wait
abbrev pub AreQueued : (InodeId → List Item → Type 0) → List Line → List InodeId → List Listing → Type 0
AreQueued Shows lines [] [] = ⊤
AreQueued Shows lines [] (one ∷ listings) = ⊥
AreQueued Shows lines (id ∷ ids) [] = ⊥
AreQueued Shows lines (id ∷ ids) (one ∷ listings) = (one.dir ≡ id) × Shows id one.items × AreQueued Shows lines (ids ++ new_ids lines one.items) listings

-- the items are those of the node with this id
abbrev pub Lists : Tree (List ℕ) → InodeId → List Item → Type 0
Lists tree id items = (path : Names) (node : Node (List ℕ)) → node_at tree path ≡ Some node → node.id ≡ id → items ≡ listing tree path

-- a queue that begins with the `+` lines' directories gives the listings of a plan
abbrev pub QueueIsListings : Type 0
QueueIsListings = (from to : Tree (List ℕ)) → IsPair from to → (listings : List Listing) → AreQueued (Lists to) (report from to) (first_ids (report from to)) listings → listings ≡ listings_of from to
