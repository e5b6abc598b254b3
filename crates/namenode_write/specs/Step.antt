-- What an exclusive call makes of a namenode.
use Rattle.std.specs.Prelude.{◌≡◌, ℕ, ◌+◌, ◌<◌, ◌≤◌, Bool, true, false, not, List, [], length, ◌++◌, Option, is_some}
use Rattle.std.specs.Option.{option_to_list}
use Rattle.hs_types.specs.Blocks.{BlockMap}
use Rattle.hs_types.specs.Faults.{Rose}
use Rattle.hs_types.specs.declared.ids.CallerId.{CallerId}
use Rattle.hs_types.specs.declared.call.Call.{Call}
use Rattle.hs_types.specs.declared.reply.Reply.{Reply}
use Rattle.hs_types.specs.declared.reply.Reply.TheVariants as replies
use Rattle.hs_types.specs.declared.reply.Answered.{Answered}
use Rattle.hs_types.specs.declared.journal.Entry.{Entry}
use Rattle.hs_plain.specs.Answer.{answer, is_modifying, is_ok_reply, is_store_fault, uses_store}
use Rattle.hs_plain.specs.Legal.{IsLegalCall, entry_left}
use Rattle.hs_plain.specs.Replay.{plain_after, is_proper}
use Rattle.inode_table.specs.Totals as totals
use Rattle.namenode_write.specs.declared.rows.space.RowSpace.{RowSpace}
use Rattle.namenode_write.specs.FaultCounts.{CountsFaults}
use Rattle.namenode_write.specs.Faulted.{fault_count}
use Rattle.namenode_write.specs.NamenodeValue.{NamenodeValue}
use Rattle.namenode_write.specs.Outcome.{is_storeless, is_freeing, most_added}
use Rattle.namenode_write.specs.Rows.{held, IsAt}

-- rows, records, entries of lists and live snapshots
abbrev pub weight_of : {S : Type 0} → NamenodeValue S → ℕ
weight_of node = totals.weight node.table.rows + length (plain_after node.entries).members

-- a refusal that is no fault of the store
abbrev pub is_refused : Reply → Bool
is_refused (replies.Refused why) = not (is_store_fault (replies.Refused why))
is_refused reply = false

-- what a namenode keeps true of what it holds
pub record IsConsistent {S : Type 0} (blocks : S → Option BlockMap) (greatest faults : S → ℕ) (space : RowSpace S) (journal : List Entry) : Type 0 where
  -- table, snapshots and store stand for the plain state of the journal
  pub at : IsAt (held blocks greatest space) (length journal) (plain_after journal)
  pub proper : is_proper journal ≡ true
  pub within : length journal ≤ space.limit
  pub most : space.limit ≤ 1000000
  -- there are no more faults than the store counts
  pub faults_counted : fault_count journal ≤ faults space.store

-- one call is answered
pub record IsStep {S : Type 0} (blocks : S → Option BlockMap) (greatest faults : S → ℕ) (old new : NamenodeValue S) (caller : CallerId) (seq : ℕ) (call : Call) (told : Answered) : Type 0 where
  -- the answer is that of the plain machine at the end of the journal, which has its limit
  pub legal : IsLegalCall (is_some (blocks new.store)) new.limit new.entries caller seq call told
  pub place : told.position ≡ length old.entries
  -- the journal has this call's entry more, or is as before
  pub appended : new.entries ≡ old.entries ++ option_to_list (entry_left caller (record { seq = seq; call = call; told = told }))
  pub limit : new.limit ≡ old.limit
  pub within : length new.entries ≤ new.limit
  -- no call is done at the limit, a read neither
  pub below : is_ok_reply told.reply ≡ true → length old.entries < old.limit
  -- a refusal but a fault of the store changes nothing
  pub refused : is_refused told.reply ≡ true → new ≡ old
  -- a call that isn't done changes neither rows nor snapshots, and nothing at all where it doesn't use the store
  pub undone_table : is_ok_reply told.reply ≡ false → new.table ≡ old.table
  pub undone_snaps : is_ok_reply told.reply ≡ false → new.snaps ≡ old.snaps
  pub undone : uses_store call ≡ false → is_ok_reply told.reply ≡ false → new ≡ old
  -- a read changes the journal by its faulted entry alone, and the store's count; its blocks and the greatest number stay
  pub reads : is_modifying call ≡ false → new ≡ record old { entries = new.entries; store = new.store }
  pub read_blocks : is_modifying call ≡ false → blocks new.store ≡ blocks old.store
  pub read_greatest : is_modifying call ≡ false → greatest new.store ≡ greatest old.store
  -- the store failed where that is the answer, and the plain machine would have done the call
  pub cause : is_store_fault told.reply ≡ true → Rose (faults old.store) (faults new.store)
  pub faulted : is_store_fault told.reply ≡ true → (uses_store call ≡ true) × (is_ok_reply (answer (plain_after old.entries) call) ≡ true)
  -- it tells its bytes as before; its count doesn't fall, and it rose where a faulted entry came
  pub tells : is_some (blocks new.store) ≡ is_some (blocks old.store)
  pub count : faults old.store ≤ faults new.store
  pub counted : CountsFaults faults old new
  -- it isn't asked where a call needs nothing of it
  pub storeless : is_storeless call ≡ true → new.store ≡ old.store
  -- a call that is done leaves the blocks that wait, unless it frees them; then none waits where the store doesn't fail
  pub waits : is_freeing call ≡ false → is_ok_reply told.reply ≡ true → new.waiting ≡ old.waiting
  pub freed : is_freeing call ≡ true → is_ok_reply told.reply ≡ true → (Rose (faults old.store) (faults new.store) → ⊥) → new.waiting ≡ []
  -- a call that is done adds little to the weight
  pub heavier : is_ok_reply told.reply ≡ true → weight_of new ≤ weight_of old + most_added call
