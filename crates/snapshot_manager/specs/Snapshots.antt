-- What callers see of a namenode's snapshots: the directories with their snapshots, and what each call makes of them.
use Rattle.std.specs.Prelude.{◌≡◌, ℕ, ◌<◌, ◌≤◌, Bool, not, ◌&&◌, ◌==◌, nat_lt, nat_le, bytes_eq, List, [], ◌∷◌, ◌++◌, length, map, filter, max, Option, None, Some, is_some, unwrap_or, if◌then◌else◌, ⊤, IsTrue}
use Rattle.std.specs.Option.{option_map}
use Rattle.std.specs.List.{find, flat_map, list_any, AllByRecursion, IsDistinct}
use Rattle.hs_types.specs.declared.ids.InodeId.{InodeId}
use Rattle.hs_types.specs.declared.ids.SnapId.{SnapId}
use Rattle.hs_types.specs.declared.name.SnapItem.{SnapItem}

-- a snapshottable directory, with its snapshots in order of making
abbrev pub Directory : Type 0
Directory = InodeId × List SnapItem

-- the snapshottable directories by rising id, and the greatest snapshot id that was issued (0 before the first)
pub record Snapshots : Type 0 where
  pub dirs : List (InodeId × List SnapItem)
  pub issued : SnapId

-- the snapshot has this name
abbrev pub has_name : List ℕ → SnapItem → Bool
has_name name item = bytes_eq name item.name

-- the snapshot has this id
abbrev pub has_id : SnapId → SnapItem → Bool
has_id id item = id.0 == item.id.0

-- the snapshot has a greater id
abbrev pub is_after : SnapId → SnapItem → Bool
is_after id item = nat_lt id.0 item.id.0

-- the entry is this directory's
abbrev pub is_of : InodeId → Directory → Bool
is_of dir d = dir.0 == d.0.0

-- a directory's snapshots in order of making; nothing where it isn't snapshottable
abbrev pub snaps_of : Snapshots → InodeId → Option (List SnapItem)
snaps_of s dir = option_map (λ d. d.1) (find (is_of dir) s.dirs)

-- a directory's snapshots in order of making; none where it isn't snapshottable
abbrev pub snaps_in : Snapshots → InodeId → List SnapItem
snaps_in s dir = unwrap_or (snaps_of s dir) []

-- a snapshot of the list has this name
abbrev pub is_named : List ℕ → List SnapItem → Bool
is_named name items = list_any (has_name name) items

-- each live snapshot with its directory
abbrev pub live : Snapshots → List (InodeId × SnapItem)
live s = flat_map (λ d. map (λ item. (d.0, item)) d.1) s.dirs

-- the live snapshot with this id, and its directory
abbrev pub live_at : Snapshots → SnapId → Option (InodeId × SnapItem)
live_at s id = find (λ p. has_id id p.1) (live s)

-- the id is above low and at most high
abbrev pub is_between : SnapId → SnapId → SnapId → Bool
is_between low high id = nat_lt low.0 id.0 && nat_le id.0 high.0

-- the greatest id of the list, 0 where it is empty
abbrev pub greatest : List SnapItem → ℕ
greatest [] = 0
greatest (item ∷ items) = max item.id.0 (greatest items)

-- the greatest id of the list, where there is one
abbrev pub last_id : List SnapItem → Option SnapId
last_id [] = None
last_id (item ∷ items) = Some (record { 0 = greatest (item ∷ items) })

-- no directory is snapshottable, and no id was issued
abbrev pub start : Snapshots
start = record { dirs = []; issued = record { 0 = 0 } }

-- the directory is snapshottable with no snapshots, or as it was before
abbrev pub allowed : InodeId → Snapshots → Snapshots
allowed dir s = if is_some (snaps_of s dir) then s else record s { dirs = filter (λ d. nat_lt d.0.0 dir.0) s.dirs ++ (dir, []) ∷ filter (λ d. nat_lt dir.0 d.0.0) s.dirs }

-- the directory is no longer snapshottable
abbrev pub disallowed : InodeId → Snapshots → Snapshots
disallowed dir s = record s { dirs = filter (λ d. not (is_of dir d)) s.dirs }

-- the snapshots of one directory are changed by f
abbrev pub changed : InodeId → (List SnapItem → List SnapItem) → Snapshots → Snapshots
changed dir f s = record s { dirs = map (λ d. if is_of dir d then (d.0, f d.1) else d) s.dirs }

-- the directory has one more snapshot at the end, whose id was issued
abbrev pub added : InodeId → SnapItem → Snapshots → Snapshots
added dir item s = record (changed dir (λ items. items ++ item ∷ []) s) { issued = item.id }

-- the list without the snapshot of this name
abbrev pub without : List ℕ → List SnapItem → List SnapItem
without name items = filter (λ item. not (has_name name item)) items

-- the list, with another name for the snapshot of the old name
abbrev pub renamed : List ℕ → List ℕ → List SnapItem → List SnapItem
renamed old new items = map (λ item. if has_name old item then record item { name = new } else item) items

-- each number is below all that follow
abbrev pub IsRising : List ℕ → Type 0
IsRising [] = ⊤
IsRising (n ∷ ns) = AllByRecursion (λ m. n < m) ns × IsRising ns

-- no two snapshots of the list have one name
abbrev pub NamesDiffer : List SnapItem → Type 0
NamesDiffer items = IsDistinct bytes_eq (map (λ item. item.name) items)

-- the ids rise in order of making
abbrev pub IdsRise : List SnapItem → Type 0
IdsRise items = IsRising (map (λ item. item.id.0) items)

-- what holds of each directory's snapshots, where ids up to `issued` were issued
pub record IsHistory (issued : ℕ) (items : List SnapItem) : Type 0 where
  pub names : NamesDiffer items
  pub rise : IdsRise items
  pub in_range : AllByRecursion (λ item. (0 < item.id.0) × (item.id.0 ≤ issued)) items
  pub few : length items ≤ 65536

-- what holds at all times: the directories rise, and each one's snapshots are such a history
pub record IsProper (s : Snapshots) : Type 0 where
  pub dirs_rise : IsRising (map (λ d. d.0.0) s.dirs)
  pub histories : AllByRecursion (λ d. IsHistory s.issued.0 d.1) s.dirs

-- no id is that of two directories' snapshots
abbrev pub IdsApart : Snapshots → Type 0
IdsApart s = (id : SnapId) (a b : InodeId) → IsTrue (list_any (has_id id) (snaps_in s a)) → IsTrue (list_any (has_id id) (snaps_in s b)) → a ≡ b
