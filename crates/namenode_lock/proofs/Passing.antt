-- One call of a pass, alone with the namenode or beside others.
use Rattle.std.proofs.Common.{◌≡◌, ℕ, ◌^◌, ◌≤◌, ◌<◌, Bool, List, ap, sym, ◌∙◌, subst}
use Rattle.std.specs.Prelude.{Option, is_some}
use Rattle.hs_types.specs.Blocks.{BlockMap}
use Rattle.hs_types.specs.declared.ids.CallerId.{CallerId}
use Rattle.hs_types.specs.declared.call.Call.{Call}
use Rattle.hs_types.specs.declared.journal.Entry.{Entry}
use Rattle.hs_types.specs.declared.reply.Answered.{Answered}
use Rattle.hs_plain.specs.Legal.{IsLegalCall}
use Rattle.namenode_write.specs.NamenodeValue.{NamenodeValue}
use Rattle.namenode_write.specs.Step.{IsStep}
use Rattle.turn_lock.specs.declared.historied.Kept.{Kept}
use Rattle.turn_lock.specs.Histories as histories
use Rattle.turn_lock.specs.Seats.{Lock, Seat, MayFind}
use Rattle.page_join.specs.Links.{Known, IsCall, LeadsOn, next_number}
use Rattle.namenode_lock.specs.Held.{kept_of, IsLawfulHistory, IsAtEnd}
use Rattle.namenode_lock.specs.Passes.{Passed, known}
use Rattle.namenode_lock.proofs.Calls.{after, at_end_called, at_end_adds}

-- a pass by its parts
abbrev pub passed : Seat → CallerId → ℕ → Passed
passed seat caller calls = record { lock = seat.lock; caller = caller; calls = calls; seen = seat.seen }

-- a pass whose next call has been counted
abbrev pub counted : Passed → Passed
counted now = record now { calls = next_number now.calls }

module _ {S : Type 0} (blocks : S → Option BlockMap) (greatest faults : S → ℕ) (x y : NamenodeValue S) (caller : CallerId) (seq : ℕ) (call : Call) (told : Answered) (step : IsStep blocks greatest faults x y caller seq call told) where
  -- an exclusive call keeps what is kept
  pub step_kept : kept_of blocks y ≡ kept_of blocks x
  step_kept =
      ap (λ (n : ℕ). let k : Kept = record { limit = n; tells = is_some (blocks y.store) } in k) step.limit
      ∙ ap (λ (b : Bool). let k : Kept = record { limit = x.limit; tells = b } in k) step.tells

  -- and is answered at the end of the journal
  pub step_at_end : IsAtEnd (is_some (blocks x.store)) x.limit x.entries y.entries caller seq call told
  step_at_end = record {
    legal = subst (λ (k : Kept). IsLegalCall k.tells k.limit y.entries caller seq call told) step_kept step.legal;
    place = step.place;
    appended = step.appended;
  }

  pub step_adds : histories.AddsOnlyBy caller.0 x.entries y.entries
  step_adds = at_end_adds (is_some (blocks x.store)) x.limit x.entries y.entries caller seq call told step_at_end

module _ (now : Passed) (seat new : Seat) (who : CallerId) (calls : ℕ) (within : now.calls < 2 ^ 64) (is : passed seat who calls ≡ counted now) (who_is : who.0 ≡ seat.caller) (limited : now.lock.kept.limit ≤ 1000000) where
  locks : seat.lock ≡ now.lock
  locks = ap (λ (p : Passed). p.lock) is

  leads_from : (log : List Entry) → histories.LeadsOn seat.caller seat.seen log → LeadsOn now.caller now.seen log
  leads_from log leads = subst (λ (p : Passed). LeadsOn p.caller p.seen log) is (subst (λ (n : ℕ). histories.LeadsOn n seat.seen log) (sym who_is) leads)

  -- the pass after a call that was answered at the end of a journal
  pub passed_call : (log left : List Entry) (call : Call) (told : Answered) → histories.LeadsOn seat.caller seat.seen log → new ≡ record seat { seen = left } → IsLawfulHistory seat.lock.kept left →
      IsAtEnd seat.lock.kept.tells seat.lock.kept.limit log left now.caller (next_number now.calls) call told →
      IsCall (known now) (known (passed new who calls)) call told
  passed_call log left call told leads moved lawful at =
      let there : known (passed new who calls) ≡ after (known now) left = ap (λ (s : Seat). known (passed s who calls)) moved ∙ ap (λ (p : Passed). known (record p { seen = left })) is in
      let good : IsLawfulHistory now.lock.kept left = subst (λ (l : Lock). IsLawfulHistory l.kept left) locks lawful in
      subst (λ (k : Known). IsCall (known now) k call told) (sym there)
      (at_end_called (known now) log left call told within (leads_from log leads) (subst (λ (l : Lock). IsAtEnd l.kept.tells l.kept.limit log left now.caller (next_number now.calls) call told) locks at) (record { proper = good.0; within = good.1; limited = limited }))

  -- alone with the namenode
  pub alone_called : {S : Type 0} (blocks : S → Option BlockMap) (greatest faults : S → ℕ) (x y : NamenodeValue S) (caller : CallerId) (seq : ℕ) (call : Call) (told said : Answered) →
      MayFind seat (kept_of blocks x) x.entries → IsStep blocks greatest faults x y caller seq call told → IsLawfulHistory (kept_of blocks y) y.entries → new ≡ record seat { seen = y.entries } →
      caller ≡ now.caller → seq ≡ next_number now.calls → told ≡ said →
      IsCall (known now) (known (passed new who calls)) call said
  alone_called blocks greatest faults x y caller seq call told said may step lawful moved by number same =
      let at : IsAtEnd seat.lock.kept.tells seat.lock.kept.limit x.entries y.entries caller seq call told = subst (λ (k : Kept). IsAtEnd k.tells k.limit x.entries y.entries caller seq call told) may.0 (step_at_end blocks greatest faults x y caller seq call told step) in
      let kept : kept_of blocks y ≡ seat.lock.kept = step_kept blocks greatest faults x y caller seq call told step ∙ may.0 in
      passed_call x.entries y.entries call said may.1 moved (subst (λ (k : Kept). IsLawfulHistory k y.entries) kept lawful)
      (subst (λ (t : Answered). IsAtEnd seat.lock.kept.tells seat.lock.kept.limit x.entries y.entries now.caller (next_number now.calls) call t) same
      (subst (λ (n : ℕ). IsAtEnd seat.lock.kept.tells seat.lock.kept.limit x.entries y.entries now.caller n call told) number
      (subst (λ (c : CallerId). IsAtEnd seat.lock.kept.tells seat.lock.kept.limit x.entries y.entries c seq call told) by at)))
