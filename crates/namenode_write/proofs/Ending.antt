-- What a call over rows makes of the plain state and of the journal, told of its reply.
use Rattle.std.proofs.Common.{◌≡◌, ℕ, ◌+◌, ◌==◌, Bool, true, false, cond, if◌then◌else◌, ◌&&◌, List, Ok, Err, Result, is_some, refl, ap, sym, subst, ◌∙◌, arith}
use Rattle.std.proofs.lemmas.Bool.Decides.{nat_tests}
use Rattle.std.specs.Prelude.{IfOk, IfErr, OnErr}
use Rattle.hs_types.specs.Refusals.{number_of}
use Rattle.hs_types.specs.declared.ids.CallerId.{CallerId}
use Rattle.hs_types.specs.declared.call.Call.{Call}
use Rattle.hs_types.specs.declared.reply.Reply.{Reply}
use Rattle.hs_types.specs.declared.reply.Reply.TheVariants as replies
use Rattle.hs_types.specs.declared.refusal.Refusal.{Refusal}
use Rattle.hs_types.specs.declared.refusal.Refusal.TheVariants as refusals
use Rattle.hs_types.specs.declared.journal.EntryKind.TheVariants.{Accepted, Faulted}
use Rattle.hs_plain.specs.declared.state.State.{State}
use Rattle.hs_plain.specs.declared.resolve.AskFault.{AskFault}
use Rattle.hs_plain.specs.declared.resolve.AskFault.TheVariants.{Refused, NoMemory}
use Rattle.hs_plain.specs.Files.{plain_files}
use Rattle.hs_plain.specs.inside.Faults.{told_reply}
use Rattle.hs_plain.specs.Answer.{answer, claimed, is_modifying, is_ok_reply, uses_store, origin_of, is_store_fault, is_plain_reply, is_journal_full}
use Rattle.hs_plain.specs.Change.{change, changed_if, is_accepted, ticked, after}
use Rattle.hs_plain.specs.Replay.{fits_kind, may_follow}
use Rattle.hs_plain.specs.Legal.{entry_of, leaves_entry}
use Rattle.hs_plain.proofs.Answers.{answers_own}
use Rattle.table_laws.proofs.WholePlain.{plain-tick}
use Rattle.namenode_write.specs.Reasons.{IsRefusal}
use Rattle.namenode_write.specs.Outcome.{IsWhy, IsReason}
use Rattle.namenode_write.specs.Rows.{Held, IsAt, IsDone}
use Rattle.namenode_write.proofs.Journals.{and_false, ok_no_fault, fault_number, refused_leaves, machine_not_full, store_not_full, store_not_machine, ok_not_full, ok-claimed, leaves_ok}

-- an entry that changes nothing but the tick
pub ticked-at : (now : Held) (tick : ℕ) (plain : State (List ℕ)) → IsAt now tick plain → IsAt now (tick + 1) (ticked plain)
ticked-at now tick plain at = record {
  stands = plain-tick now.table now.snaps now.store now.greatest now.waiting plain at.stands;
  tick = ap (λ n. n + 1) at.tick;
  inodes = omega (arith, at.inodes);
  snapshots = omega (arith, at.snapshots);
  light = omega (arith, at.light);
}

-- a full journal is told by its number
full_number : (why : Refusal) → is_journal_full (replies.Refused why) ≡ (number_of why == 22)
full_number refusals.BadPath = refl
full_number refusals.TooLong = refl
full_number refusals.TooDeep = refl
full_number refusals.Reserved = refl
full_number refusals.ReadOnly = refl
full_number refusals.NotFound = refl
full_number refusals.NotDir = refl
full_number refusals.NotFile = refl
full_number refusals.Exists = refl
full_number refusals.NotSnapshotName = refl
full_number refusals.IsRoot = refl
full_number refusals.NotEmpty = refl
full_number refusals.HasSnapshots = refl
full_number refusals.IntoItself = refl
full_number refusals.NotSnapshottable = refl
full_number refusals.Nested = refl
full_number refusals.SnapshotExists = refl
full_number refusals.NoSnapshot = refl
full_number refusals.SnapshotLimit = refl
full_number refusals.Gone = refl
full_number (refusals.Moved begun reached) = refl
full_number refusals.JournalFull = refl
full_number refusals.StoreFault = refl

-- its number tells a full journal from a fault of the store
full_no_store : (why : Refusal) → (number_of why == 22) ≡ true → (number_of why == 23) ≡ false
full_no_store why full = by (number_of why) full
  where
    by : (n : ℕ) → (n == 22) ≡ true → (n == 23) ≡ false
    by n full = grind (arith, nat_tests)

-- what a call ends with
pub record IsEnded (before now : Held) (tick : ℕ) (full : Bool) (caller : CallerId) (seq : ℕ) (call : Call) (reply : Reply) (plain : State (List ℕ)) : Type 0 where
  pub answered : is_plain_reply reply ≡ true → claimed (is_some before.store) reply ≡ claimed (is_some before.store) (answer plain call)
  pub follows : leaves_entry call reply ≡ true → may_follow plain (entry_of caller seq call reply) ≡ true
  pub entered : leaves_entry call reply ≡ true → IsAt now (tick + 1) (after plain_files plain (entry_of caller seq call reply))
  pub unchanged : leaves_entry call reply ≡ false → IsAt now tick plain
  pub faulted : is_store_fault reply ≡ true → (uses_store call ≡ true) × (is_ok_reply (answer plain call) ≡ true)
  pub at_limit : is_journal_full reply ≡ true → (full ≡ true) × (is_ok_reply (answer plain call) ≡ true)

module _ (before now : Held) (tick : ℕ) (full : Bool) (caller : CallerId) (seq : ℕ) (call : Call) (plain : State (List ℕ)) where
  ended_done : (reply : Reply) → IsDone before now tick call reply plain → IsEnded before now tick full caller seq call reply plain
  ended_done reply is =
      let no_fault : is_store_fault reply ≡ false = ok_no_fault reply is.ok in
      let leaves : leaves_entry call reply ≡ is_modifying call = leaves_ok call reply is.ok in
      let ok : is_ok_reply (answer plain call) ≡ true = sym (ok-claimed (is_some before.store) (answer plain call)) ∙ ap is_ok_reply (sym is.told) ∙ ok-claimed (is_some before.store) reply ∙ is.ok in
      record {
        answered = λ _. is.told;
        follows = λ left.
            ap (λ b. fits_kind (if b then Faulted else Accepted) call && is_ok_reply (answer plain call)) no_fault
            ∙ ap (λ b. b && is_ok_reply (answer plain call)) (sym leaves ∙ left)
            ∙ ok;
        entered = λ left.
            subst (λ b. IsAt now (tick + 1) (ticked (changed_if b plain_files plain call))) (sym (ap (λ b. is_accepted (if b then Faulted else Accepted) && is_modifying call) no_fault ∙ sym leaves ∙ left))
            (subst (λ b. IsAt now (cond b (tick + 1) tick) (cond b (ticked (change plain_files plain call)) plain)) (sym leaves ∙ left) is.after);
        unchanged = λ none. subst (λ b. IsAt now (cond b (tick + 1) tick) (cond b (ticked (change plain_files plain call)) plain)) (sym leaves ∙ none) is.after;
        faulted = λ fault. absurd (cc);
        at_limit = λ limits. absurd (cc (ok_not_full reply is.ok, limits));
      }

  ended_refused : (why : Refusal) (fault : Bool) → (number_of why == 23) ≡ fault → IsRefusal fault plain call why → IsAt now tick plain → IsEnded before now tick full caller seq call (replies.Refused why) plain
  ended_refused why true is cause same =
      let faults : is_store_fault (replies.Refused why) ≡ true = fault_number why ∙ is in
      record {
        answered = λ own. absurd (cc (store_not_machine (origin_of (replies.Refused why)) faults, own));
        follows = λ left.
            ap (λ b. fits_kind (if b then Faulted else Accepted) call && is_ok_reply (answer plain call)) faults
            ∙ ap (λ b. b && is_ok_reply (answer plain call)) cause.0
            ∙ cause.1;
        entered = λ left. subst (λ b. IsAt now (tick + 1) (ticked (changed_if (is_accepted (if b then Faulted else Accepted) && is_modifying call) plain_files plain call))) (sym faults) (ticked-at now tick plain same);
        unchanged = λ none. same;
        faulted = λ so. cause;
        at_limit = λ limits. absurd (cc (store_not_full (origin_of (replies.Refused why)) faults, limits));
      }
  ended_refused why false is cause same = record {
    answered = λ own. ap (claimed (is_some before.store)) (sym cause);
    follows = λ left. absurd (cc (refused_leaves call why, left));
    entered = λ left. absurd (cc (refused_leaves call why, left));
    unchanged = λ none. same;
    faulted = λ so. absurd (cc (fault_number why, so));
    at_limit = λ limits. absurd (cc (machine_not_full (origin_of (replies.Refused why)) (ap is_plain_reply (sym cause) ∙ answers_own plain call), limits));
  }

  ended_why : (why : Refusal) (limits : Bool) → (number_of why == 22) ≡ limits → IsWhy limits (number_of why == 23) full plain call why → IsAt now tick plain → IsEnded before now tick full caller seq call (replies.Refused why) plain
  ended_why why true is cause same =
      let told : is_journal_full (replies.Refused why) ≡ true = full_number why ∙ is in
      let none : leaves_entry call (replies.Refused why) ≡ false = refused_leaves call why ∙ full_no_store why is in
      record {
        answered = λ own. absurd (cc (machine_not_full (origin_of (replies.Refused why)) own, told));
        follows = λ left. absurd (cc (none, left));
        entered = λ left. absurd (cc (none, left));
        unchanged = λ no. same;
        faulted = λ so. absurd (cc (store_not_full (origin_of (replies.Refused why)) so, told));
        at_limit = λ limits. cause;
      }
  ended_why why false is cause same = ended_refused why (number_of why == 23) refl cause same

  ended_without_memory : IsAt now tick plain → IsEnded before now tick full caller seq call replies.NoMemory plain
  ended_without_memory same = record {
    answered = λ own. absurd (cc);
    follows = λ left. absurd (cc (and_false (is_modifying call), left));
    entered = λ left. absurd (cc (and_false (is_modifying call), left));
    unchanged = λ none. same;
    faulted = λ fault. absurd (cc);
    at_limit = λ limits. absurd (cc);
  }

  -- what the contract of a call says, told of its reply
  pub ended : (result : Result Reply AskFault) (reply : Reply) → IsAt before tick plain → reply ≡ told_reply result
      → IfOk result (λ r. (p : State (List ℕ)) → IsAt before tick p → IsDone before now tick call r p)
      → IfErr result (λ fault. (p : State (List ℕ)) → IsAt before tick p → IsReason full p call fault)
      → OnErr result ((p : State (List ℕ)) → IsAt before tick p → IsAt now tick p)
      → IsEnded before now tick full caller seq call reply plain
  ended (Ok given) reply at tells made cause kept = subst (λ r. IsEnded before now tick full caller seq call r plain) (sym tells) (ended_done given (made plain at))
  ended (Err (Refused why)) reply at tells made cause kept = subst (λ r. IsEnded before now tick full caller seq call r plain) (sym tells) (ended_why why (number_of why == 22) refl (cause plain at) (kept plain at))
  ended (Err NoMemory) reply at tells made cause kept = subst (λ r. IsEnded before now tick full caller seq call r plain) (sym tells) (ended_without_memory (kept plain at))
