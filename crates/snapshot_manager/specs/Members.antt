-- All live snapshots as one list in order of making, and what each call makes of it.
use Rattle.std.specs.Prelude.{◌≡◌, ℕ, ◌<◌, ◌≤◌, Bool, not, ◌&&◌, ◌==◌, List, [], ◌∷◌, ◌++◌, map, filter, IsSome, if◌then◌else◌}
use Rattle.std.specs.List.{find, list_any, AllByRecursion}
use Rattle.hs_types.specs.declared.ids.InodeId.{InodeId}
use Rattle.hs_types.specs.declared.ids.SnapId.{SnapId}
use Rattle.hs_types.specs.declared.name.SnapItem.{SnapItem}
use Rattle.snapshot_manager.specs.Snapshots.{Snapshots, IdsRise, IsProper, snaps_of, snaps_in, has_name, has_id, is_between, live, live_at, start, allowed, disallowed, changed, added, without, renamed}

-- a snapshot with its directory
abbrev pub Member : Type 0
Member = InodeId × SnapItem

-- the snapshots of one directory, in the list's order
abbrev pub of_dir : InodeId → List Member → List SnapItem
of_dir dir members = map (λ m. m.1) (filter (λ m. dir.0 == m.0.0) members)

-- the member is this directory's, and has this name
abbrev pub is_member : InodeId → List ℕ → Member → Bool
is_member dir name m = dir.0 == m.0.0 && has_name name m.1

-- the list has all live snapshots in order of making, and the tables say the same
pub record AreMembers (members : List Member) (s : Snapshots) : Type 0 where
  -- ids rise
  pub rise : IdsRise (map (λ m. m.1) members)
  -- and were issued
  pub issued : AllByRecursion (λ m. m.1.id.0 ≤ s.issued.0) members
  -- each directory has those that are its own
  pub tables : (dir : InodeId) → snaps_in s dir ≡ of_dir dir members
  -- and each one's directory is snapshottable
  pub snapshottable : AllByRecursion (λ m. IsSome (snaps_of s m.0)) members

-- another name for a directory's snapshot of the old name
abbrev pub rename_member : InodeId → List ℕ → List ℕ → Member → Member
rename_member dir old new m = if is_member dir old m then (m.0, record m.1 { name = new }) else m

-- ---- laws

abbrev pub MembersAtStart : Type 0
MembersAtStart = AreMembers [] start

-- to make a directory snapshottable, or to end it, changes no member
abbrev pub MembersAllowed : Type 0
MembersAllowed = (members : List Member) (s : Snapshots) (dir : InodeId) → IsProper s → AreMembers members s → AreMembers members (allowed dir s)

abbrev pub MembersDisallowed : Type 0
MembersDisallowed = (members : List Member) (s : Snapshots) (dir : InodeId) → snaps_in s dir ≡ [] → AreMembers members s → AreMembers members (disallowed dir s)

-- a new one comes last
abbrev pub MembersAdded : Type 0
MembersAdded = (members : List Member) (s : Snapshots) (dir : InodeId) (item : SnapItem) → IsSome (snaps_of s dir) → s.issued.0 < item.id.0 → AreMembers members s → AreMembers (members ++ (dir, item) ∷ []) (added dir item s)

-- the others keep their order
abbrev pub MembersRemoved : Type 0
MembersRemoved = (members : List Member) (s : Snapshots) (dir : InodeId) (name : List ℕ) → AreMembers members s → AreMembers (filter (λ m. not (is_member dir name m)) members) (changed dir (without name) s)

-- each keeps its place
abbrev pub MembersRenamed : Type 0
MembersRenamed = (members : List Member) (s : Snapshots) (dir : InodeId) (old new : List ℕ) → AreMembers members s → AreMembers (map (rename_member dir old new) members) (changed dir (renamed old new) s)

-- what is found by an id is the member with that id
abbrev pub MembersFound : Type 0
MembersFound = (members : List Member) (s : Snapshots) (id : SnapId) → IsProper s → AreMembers members s → live_at s id ≡ find (λ m. has_id id m.1) members

-- the live ids are the members'
abbrev pub MembersLive : Type 0
MembersLive = (members : List Member) (s : Snapshots) (low high : SnapId) → IsProper s → AreMembers members s → list_any (λ p. is_between low high p.1.id) (live s) ≡ list_any (λ m. is_between low high m.1.id) members
