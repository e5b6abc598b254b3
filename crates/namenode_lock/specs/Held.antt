-- A namenode under a lock, and an exclusive call of it.
use Rattle.std.specs.Prelude.{◌≡◌, ℕ, ◌≤◌, Bool, true, List, ◌++◌, length, Option, Some, is_some}
use Rattle.std.specs.Option.{option_to_list}
use Rattle.hs_types.specs.Blocks.{BlockMap}
use Rattle.hs_types.specs.declared.ids.CallerId.{CallerId}
use Rattle.hs_types.specs.declared.call.Call.{Call}
use Rattle.hs_types.specs.declared.journal.Entry.{Entry}
use Rattle.hs_types.specs.declared.reply.Answered.{Answered}
use Rattle.hs_plain.specs.Answer.{is_exclusive}
use Rattle.hs_plain.specs.Legal.{IsLegalCall, entry_left}
use Rattle.hs_plain.specs.Replay.{is_proper}
use Rattle.namenode_write.specs.NamenodeValue.{NamenodeValue}
use Rattle.namenode_write.specs.Step.{IsStep}
use Rattle.turn_lock.specs.declared.historied.Kept.{Kept}
use Rattle.namenode_lock.specs.declared.held.Order.{Order}

-- what no call changes: the journal's limit, and whether the store tells its bytes
abbrev pub kept_of : {S : Type 0} → (S → Option BlockMap) → NamenodeValue S → Kept
kept_of blocks node = record { limit = node.limit; tells = is_some (blocks node.store) }

-- a journal that a namenode may have
abbrev pub IsLawfulHistory : Kept → List Entry → Type 0
IsLawfulHistory kept log = (is_proper log ≡ true) × (length log ≤ kept.limit)

-- a call is to be made that wants the namenode alone
abbrev pub IsReady : Order → Type 0
IsReady order = (call : Call) × (order.call ≡ Some call) × (is_exclusive call ≡ true)

-- it was made, and left a journal that a namenode may have
abbrev pub IsDone : {S : Type 0} → (S → Option BlockMap) → (greatest faults : S → ℕ) → NamenodeValue S → NamenodeValue S → Order → Order → Type 0
IsDone blocks greatest faults old new before after =
    (call : Call) → before.call ≡ Some call →
    (told : Answered) × (after.told ≡ Some told) × IsStep blocks greatest faults old new before.caller before.seq call told × IsLawfulHistory (kept_of blocks new) new.entries

-- a call is answered at the end of a journal, which then has its entry more, or is as before
pub record IsAtEnd (tells : Bool) (limit : ℕ) (old new : List Entry) (caller : CallerId) (seq : ℕ) (call : Call) (told : Answered) : Type 0 where
  pub legal : IsLegalCall tells limit new caller seq call told
  pub place : told.position ≡ length old
  pub appended : new ≡ old ++ option_to_list (entry_left caller (record { seq = seq; call = call; told = told }))
