-- A call beside others is never answered by a fault of the store, nor by a full journal.
use Rattle.std.proofs.Common.{◌≡◌, ℕ, true, false, List, refl}
use Rattle.hs_types.specs.declared.call.Call.{Call}
use Rattle.hs_plain.specs.declared.state.State.{State}
use Rattle.hs_plain.specs.Answer.{answer, Origin, machine, store, limit, memory, origin_of, is_machine, is_store, is_limit, is_store_fault}
use Rattle.hs_plain.proofs.Answers.{answers_own}

machine_not_store : (origin : Origin) → is_machine origin ≡ true → is_store origin ≡ false
machine_not_store machine so = refl
machine_not_store store so = absurd (cc)
machine_not_store limit so = absurd (cc)
machine_not_store memory so = absurd (cc)

pub machine_not_full : (origin : Origin) → is_machine origin ≡ true → is_limit origin ≡ false
machine_not_full machine so = refl
machine_not_full store so = absurd (cc)
machine_not_full limit so = absurd (cc)
machine_not_full memory so = absurd (cc)

pub answer_faultless : (state : State (List ℕ)) (call : Call) → is_store_fault (answer state call) ≡ false
answer_faultless state call = machine_not_store (origin_of (answer state call)) (answers_own state call)
