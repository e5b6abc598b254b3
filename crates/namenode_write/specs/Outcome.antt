-- What an exclusive call over rows leaves, whatever it answers.
use Rattle.std.specs.Prelude.{◌≡◌, ℕ, ◌+◌, ◌==◌, ◌<◌, ◌≤◌, nat_lt, Bool, true, false, not, List, [], length, Option, is_some, Result, IfOk, IfErr, OnOk, OnErr, IsErrOf, vec_len, vec_capacity, ⊤}
use Rattle.hs_types.specs.Blocks.{BlockMap}
use Rattle.hs_types.specs.Faults.{Rose}
use Rattle.hs_types.specs.Refusals.{number_of}
use Rattle.hs_types.specs.declared.call.Call.{Call}
use Rattle.hs_types.specs.declared.call.Call.TheVariants as calls
use Rattle.hs_types.specs.declared.reply.Reply.{Reply}
use Rattle.hs_types.specs.declared.refusal.Refusal.{Refusal}
use Rattle.hs_types.specs.declared.refusal.Refusal.TheVariants.{StoreFault, JournalFull}
use Rattle.hs_plain.specs.declared.state.State.{State}
use Rattle.hs_plain.specs.declared.resolve.AskFault.{AskFault}
use Rattle.hs_plain.specs.declared.resolve.AskFault.TheVariants.{Refused, NoMemory}
use Rattle.hs_plain.specs.Answer.{answer, is_modifying, is_ok_reply, uses_store}
use Rattle.inode_table.specs.Kept.{told}
use Rattle.namenode_write.specs.declared.rows.space.RowSpace.{RowSpace}
use Rattle.namenode_write.specs.Reasons.{IsRefusal}
use Rattle.namenode_write.specs.Rows.{held, all_of, value_of, weight, done, IsAt, IsDone}

-- how many entries there are
abbrev pub tick_of : {S : Type 0} → RowSpace S → ℕ
tick_of space = length space.journal.items

-- whether the journal is at its limit
abbrev pub is_full : {S : Type 0} → RowSpace S → Bool
is_full space = not (nat_lt (tick_of space) space.limit)

-- the next entry has its place
pub record HasPlace {S : Type 0} (space : RowSpace S) : Type 0 where
  pub below : tick_of space < space.limit
  pub most : space.limit ≤ 1000000
  pub room : vec_len space.journal < vec_capacity space.journal

-- why the next entry has no place: the journal is full, or memory is wanted
abbrev pub IsPlaceFault : Bool → AskFault → Type 0
IsPlaceFault full (Refused why) = (why ≡ JournalFull) × (full ≡ true)
IsPlaceFault full NoMemory = ⊤

-- ---- why a call isn't done

-- the journal is full where the plain machine does the call; any other refusal is the plain machine's, or a fault of the store
abbrev pub IsWhy : Bool → Bool → Bool → State (List ℕ) → Call → Refusal → Type 0
IsWhy true fault full plain call why = (full ≡ true) × (is_ok_reply (answer plain call) ≡ true)
IsWhy false fault full plain call why = IsRefusal fault plain call why

-- want of memory is free
abbrev pub IsReason : Bool → State (List ℕ) → Call → AskFault → Type 0
IsReason full plain call (Refused why) = IsWhy (number_of why == 22) (number_of why == 23) full plain call why
IsReason full plain call NoMemory = ⊤

-- a refusal, by the plain machine or for want of a place
abbrev pub is_refusal : AskFault → Bool
is_refusal (Refused why) = not (number_of why == 23)
is_refusal NoMemory = false

-- ---- the store

-- a call that asks nothing of the store
abbrev pub is_storeless : Call → Bool
is_storeless (calls.Create path over) = false
is_storeless (calls.Append path bytes) = length bytes == 0
is_storeless (calls.Delete path recursive) = false
is_storeless (calls.SnapDel path name) = false
is_storeless (calls.Read path offset len) = false
is_storeless (calls.ReadNext cursor len) = false
is_storeless call = true

-- a call that frees what waits once it is done
abbrev pub is_freeing : Call → Bool
is_freeing (calls.Create path over) = true
is_freeing (calls.Delete path recursive) = true
is_freeing (calls.SnapDel path name) = true
is_freeing call = false

-- ---- the weight

-- what a call that is done adds at most to the weight: a new snapshot at most 2, a deleted one nothing
abbrev pub most_added : Call → ℕ
most_added (calls.Snap path name) = 2
most_added (calls.SnapDel path name) = 0
most_added call = 10

-- ---- the outcome

-- what a call leaves, over stores that tell their blocks, the greatest number that they have given, and a count of faults
pub record IsOutcome {S : Type 0} (blocks : S → Option BlockMap) (greatest faults : S → ℕ) (before after : RowSpace S) (call : Call) (result : Result Reply AskFault) : Type 0 where
  -- it was done
  pub made : IfOk result (λ reply. (plain : State (List ℕ)) → IsAt (held blocks greatest before) (tick_of before) plain → IsDone (held blocks greatest before) (held blocks greatest after) (tick_of before) call reply plain)
  pub heavier : OnOk result ((plain : State (List ℕ)) → IsAt (held blocks greatest before) (tick_of before) plain → weight (held blocks greatest after) (done plain call) ≤ weight (held blocks greatest before) plain + most_added call)
  -- or it wasn't: why, and the plain state is as before
  pub cause : IfErr result (λ fault. (plain : State (List ℕ)) → IsAt (held blocks greatest before) (tick_of before) plain → IsReason (is_full before) plain call fault)
  pub kept : OnErr result ((plain : State (List ℕ)) → IsAt (held blocks greatest before) (tick_of before) plain → IsAt (held blocks greatest after) (tick_of before) plain)
  -- a refusal changes nothing at all, not even room
  pub refused : IfErr result (λ fault. is_refusal fault ≡ true → after ≡ before)
  -- a call that isn't done changes neither rows nor snapshots, and but for room nothing at all where it doesn't use the store
  pub undone_table : OnErr result (told after.table ≡ told before.table)
  pub undone_snaps : OnErr result (after.snaps ≡ before.snaps)
  pub undone : uses_store call ≡ false → OnErr result (value_of after after.journal.items ≡ value_of before before.journal.items)
  -- a read changes nothing that is held
  pub reads : is_modifying call ≡ false → held blocks greatest after ≡ held blocks greatest before
  -- the journal has no entry more, but a place for one after a call that is done, a read among them, and where the store failed
  pub journal : after.journal.items ≡ before.journal.items
  pub limit : after.limit ≡ before.limit
  pub place : OnOk result (HasPlace after)
  pub fault_place : IsErrOf result (Refused StoreFault) → HasPlace after
  -- the store tells its blocks as before, its count doesn't fall, and it rose where the store failed
  pub tells : is_some (blocks after.store) ≡ is_some (blocks before.store)
  pub count : faults before.store ≤ faults after.store
  pub rose : IsErrOf result (Refused StoreFault) → Rose (faults before.store) (faults after.store)
  -- it isn't asked where it needn't be
  pub store : is_storeless call ≡ true → after.store ≡ before.store
  -- a call that is done leaves the blocks that wait, unless it frees them; then none waits where the store doesn't fail
  pub waits : is_freeing call ≡ false → OnOk result (all_of after.waiting.items ≡ all_of before.waiting.items)
  pub freed : is_freeing call ≡ true → OnOk result ((Rose (faults before.store) (faults after.store) → ⊥) → all_of after.waiting.items ≡ [])

-- a call that changes the tree, but for the bytes of its files
abbrev pub is_arranging : Call → Bool
is_arranging (calls.Mkdir path) = true
is_arranging (calls.Create path over) = true
is_arranging (calls.Delete path recursive) = true
is_arranging (calls.Rename old new) = true
is_arranging (calls.SetMode path mode) = true
is_arranging call = false
