-- Why a call isn't done.
use Rattle.std.specs.Prelude.{◌≡◌, ℕ, Bool, true, false, List}
use Rattle.hs_types.specs.declared.call.Call.{Call}
use Rattle.hs_types.specs.declared.reply.Reply.TheVariants as replies
use Rattle.hs_types.specs.declared.refusal.Refusal.{Refusal}
use Rattle.hs_types.specs.declared.refusal.Refusal.TheVariants.{StoreFault}
use Rattle.hs_plain.specs.declared.state.State.{State}
use Rattle.hs_plain.specs.declared.resolve.AskFault.{AskFault}
use Rattle.hs_plain.specs.declared.resolve.AskFault.TheVariants.{Refused, NoMemory}
use Rattle.hs_plain.specs.Answer.{answer, is_ok_reply, uses_store}
use Rattle.block_store.specs.declared.store.StoreErr.{StoreErr}
use Rattle.block_store.specs.declared.store.StoreErr.TheVariants as errors

-- a refusal is the plain machine's; a fault of the store comes where the plain machine does the call
abbrev pub IsRefusal : Bool → State (List ℕ) → Call → Refusal → Type 0
IsRefusal true plain call why = (uses_store call ≡ true) × (is_ok_reply (answer plain call) ≡ true)
IsRefusal false plain call why = answer plain call ≡ replies.Refused why

-- what a failed call of the store is told as
abbrev pub fault_of : StoreErr → AskFault
fault_of errors.Failed = Refused StoreFault
fault_of errors.NoMemory = NoMemory
