-- What entries do to snapshots that are there.
use Rattle.std.specs.Prelude.{◌≡◌, ℕ, Bool, true, false, ◌&&◌, nat_lt, List, [], Ok}
use Rattle.hs_types.specs.declared.ids.SnapId.{SnapId}
use Rattle.hs_types.specs.declared.call.Call.{Call}
use Rattle.hs_types.specs.declared.call.Call.TheVariants as calls
use Rattle.hs_types.specs.declared.journal.Entry.{Entry}
use Rattle.hs_plain.specs.declared.state.Member.{Member}
use Rattle.hs_plain.specs.declared.state.State.{State}
use Rattle.hs_plain.specs.Files.{plain_files}
use Rattle.hs_plain.specs.State.{member_with}
use Rattle.hs_plain.specs.Change.{after}
use Rattle.hs_plain.specs.Replay.{replay_from, plain_after}

-- a snapshot but for its name: its id, its directory, the tick of its making, and its copied tree
abbrev pub unnamed : {B : Type 0} → Member B → Member B
unnamed member = record member { name = [] }

-- among these snapshots is the one with this id, the same but for its name
pub record IsAmong {B : Type 0} (members : List (Member B)) (snapshot : SnapId) (member : Member B) : Type 0 where
  pub there : Member B
  pub found : member_with members snapshot ≡ Ok there
  pub same : unnamed there ≡ unnamed member

-- the id of a snapshot that was made
abbrev pub was_issued : {B : Type 0} → State B → SnapId → Bool
was_issued state snapshot = nat_lt 0 snapshot.0 && nat_lt snapshot.0 state.next_snapshot

abbrev pub is_snap_ren : Call → Bool
is_snap_ren (calls.SnapRen path old new) = true
is_snap_ren call = false

abbrev pub is_snap_del : Call → Bool
is_snap_del (calls.SnapDel path name) = true
is_snap_del call = false

-- no entries change a snapshot but for its name: one that is there later, whose id was issued before, was there with this very
-- tree; so the id of a snapshot that was taken away never comes again
abbrev pub FrozenStays : Type 0
FrozenStays = (state : State (List ℕ)) (entries : List Entry) (snapshot : SnapId) (later : Member (List ℕ)) →
    was_issued state snapshot ≡ true → member_with (replay_from plain_files state entries).members snapshot ≡ Ok later → IsAmong state.members snapshot later

-- SnapRen alone changes the name of a snapshot
abbrev pub OnlySnapRen : Type 0
OnlySnapRen = (state : State (List ℕ)) (entry : Entry) (snapshot : SnapId) (later : Member (List ℕ)) →
    is_snap_ren entry.call ≡ false → was_issued state snapshot ≡ true → member_with (after plain_files state entry).members snapshot ≡ Ok later → member_with state.members snapshot ≡ Ok later

-- SnapDel alone takes a snapshot away
abbrev pub OnlySnapDel : Type 0
OnlySnapDel = (state : State (List ℕ)) (entry : Entry) (snapshot : SnapId) (member : Member (List ℕ)) →
    is_snap_del entry.call ≡ false → member_with state.members snapshot ≡ Ok member → IsAmong (after plain_files state entry).members snapshot member

-- the ids of snapshots are issued from 1 on
abbrev pub IdsIssued : Type 0
IdsIssued = (journal : List Entry) (snapshot : SnapId) (member : Member (List ℕ)) →
    member_with (plain_after journal).members snapshot ≡ Ok member → was_issued (plain_after journal) snapshot ≡ true

-- what was issued stays issued
abbrev pub IssuedStays : Type 0
IssuedStays = (state : State (List ℕ)) (entries : List Entry) (snapshot : SnapId) →
    was_issued state snapshot ≡ true → was_issued (replay_from plain_files state entries) snapshot ≡ true
