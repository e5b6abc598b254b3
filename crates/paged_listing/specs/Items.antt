-- The items of a place that is there, by rows, and a page of them. For proofs: contracts of calls speak of the plain state's replies.
use Rattle.std.specs.Prelude.{ℕ, true, false, not, Bool, List, [], ◌∷◌, map, Option, Some, None, Ok, Err}
use Rattle.std.specs.List.{filter}
use Rattle.std.specs.Ordering.{is_lt}
use Rattle.hs_types.specs.declared.ids.InodeId.{InodeId}
use Rattle.hs_types.specs.declared.name.SnapItem.{SnapItem}
use Rattle.hs_types.specs.declared.reply.Item.{Item}
use Rattle.hs_types.specs.declared.reply.Reply.{Reply}
use Rattle.hs_types.specs.declared.refusal.Refusal.TheVariants.{NotFound, NotDir}
use Rattle.hs_types.specs.declared.call.ListCursor.{ListCursor}
use Rattle.hs_types.specs.declared.call.Place.{Place}
use Rattle.hs_types.specs.declared.call.Place.TheVariants as places
use Rattle.hs_plain.specs.declared.state.State.{State}
use Rattle.hs_plain.specs.declared.state.FileBlocks.{FileBlocks}
use Rattle.hs_plain.specs.Asked.{Asked, ◌>>=◌}
use Rattle.hs_plain.specs.State.{with_item, items_at}
use Rattle.hs_plain.specs.Pages.{page_of}
use Rattle.dir_changes.specs.Entries.{Entry, Entries, name_order}
use Rattle.dir_changes.specs.History.{children_at}
use Rattle.snapshot_manager.specs.Snapshots.{Snapshots, snaps_in}
use Rattle.inode_table.specs.RowHistory.{Table, RowHistory, File, Dir, rows_at}

-- ---- items

abbrev pub is_dir_row : Option RowHistory → Bool
is_dir_row None = false
is_dir_row (Some (File file)) = false
is_dir_row (Some (Dir dir)) = true

-- an entry as it is shown
abbrev pub item_in : Table → Entry → Item
item_in table entry = record { name = entry.0; id = entry.1; is_dir = is_dir_row (rows_at table entry.1) }

abbrev pub items_in : Table → ℕ → Option RowHistory → Asked (List Item)
items_in table s None = Err NotFound
items_in table s (Some (File file)) = Err NotDir
items_in table s (Some (Dir dir)) = Ok (map (item_in table) (children_at s dir))

-- snapshots of a directory as items, in name order
abbrev pub snap_items : InodeId → List SnapItem → List Item
snap_items dir [] = []
snap_items dir (item ∷ items) = with_item (record { name = item.name; id = dir; is_dir = true }) (snap_items dir items)

abbrev pub items_found : Table → Snapshots → Place → Asked (List Item)
items_found table snaps (places.Live id) = items_in table 0 (rows_at table id)
items_found table snaps (places.Frozen id snapshot) = items_in table snapshot.0 (rows_at table id)
items_found table snaps (places.SnapshotsOf dir) = Ok (snap_items dir (snaps_in snaps dir))

-- ---- entries behind a name

-- the entry's name is not greater than this one
abbrev pub is_passed : List ℕ → Entry → Bool
is_passed name entry = not (is_lt (name_order name entry.0))

-- the entries with a greater name than the cursor's, or all
abbrev pub entries_behind : Option (List ℕ) → Entries → Entries
entries_behind None entries = entries
entries_behind (Some name) entries = filter (λ entry. is_lt (name_order name entry.0)) entries

-- ---- pages

-- a page of items, where there are any to ask for
abbrev pub paged : ListCursor → ℕ → Asked (List Item) → Asked Reply
paged cursor size asked = do
  items ← asked
  Ok (page_of cursor.place items cursor.after size)

-- what rows tell of a cursor's place, as a page
abbrev pub page_found : Table → Snapshots → ListCursor → ℕ → Asked Reply
page_found table snaps cursor size = paged cursor size (items_found table snaps cursor.place)

-- what a plain state has at a cursor's place, as a page
abbrev pub page_asked : State FileBlocks → ListCursor → ℕ → Asked Reply
page_asked state cursor size = paged cursor size (items_at state cursor.place)
