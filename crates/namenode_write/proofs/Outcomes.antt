-- The branches of a call over rows: a test refuses, there is no place, memory is wanted, or the call is done.
use Rattle.std.proofs.Common.{◌≡◌, ℕ, ◌+◌, ◌==◌, ◌≤◌, true, false, List, Option, Ok, Err, refl, sym, ap, subst, ◌∙◌, arith}
use Rattle.std.specs.Prelude.{is_some, Result, IsErrAnd}
use Rattle.hs_types.specs.Names.{Names}
use Rattle.hs_types.specs.Blocks.{BlockMap}
use Rattle.hs_types.specs.Refusals.{number_of}
use Rattle.hs_types.specs.declared.call.Call.{Call}
use Rattle.hs_types.specs.declared.reply.Reply.{Reply}
use Rattle.hs_types.specs.declared.refusal.Refusal.{Refusal}
use Rattle.hs_types.specs.declared.refusal.Refusal.TheVariants as refusals
use Rattle.hs_plain.specs.declared.state.State.{State}
use Rattle.hs_plain.specs.declared.state.FileBlocks.{FileBlocks}
use Rattle.hs_plain.specs.declared.resolve.AskFault.{AskFault}
use Rattle.hs_plain.specs.declared.resolve.AskFault.TheVariants.{Refused, NoMemory}
use Rattle.hs_plain.specs.Asked.{Asked}
use Rattle.hs_plain.specs.Files.{block_files}
use Rattle.hs_plain.specs.Answer.{answer, answer_by, asked, replied, reply_to, is_modifying, is_ok_reply}
use Rattle.hs_plain.specs.inside.Faults.{IsFaultOf}
use Rattle.inode_table.specs.Kept.{told}
use Rattle.inode_table.specs.Whole.{StandsFor}
use Rattle.namenode_write.specs.declared.rows.space.RowSpace.{RowSpace}
use Rattle.namenode_write.specs.declared.rows.seats.Seat.{Seat}
use Rattle.namenode_write.specs.Reasons.{IsRefusal}
use Rattle.namenode_write.specs.Outcome.{tick_of, is_full, HasPlace, IsPlaceFault, IsWhy, IsReason, is_refusal, is_freeing, most_added, IsOutcome}
use Rattle.namenode_write.specs.Rows.{Held, held, all_of, value_of, weight, done, IsAt, IsStanding, IsDone}
use Rattle.namenode_write.specs.Seats.{IsSeat}
use Rattle.namenode_write.proofs.Alike.{blanked_alike}
use Rattle.namenode_write.proofs.Journals.{refused-blanked, ok-blanked}
use Rattle.namenode_write.proofs.Refused.{asked_never, asked_full}

abbrev failed : {T E : Type 0} → E → Result T E
failed e = Err e

pub same_err : {T E : Type 0} {x y : E} → failed {T = T} x ≡ Err y → x ≡ y
same_err h = cc

never-store : {X : Type 0} (a : Asked X) (fault : AskFault) → IsFaultOf a fault → ((why : Refusal) → a ≡ Err why → (number_of why == 23) ≡ false) → fault ≡ Refused refusals.StoreFault → ⊥
never-store a fault is never same = let n = never refusals.StoreFault (subst (λ (f : AskFault). IsFaultOf a f) same is) in cc

-- a test that passes is behind a reply that says so
pub would-do : {X : Type 0} (reply : Reply) (a : Asked X) (x : X) → a ≡ Ok x → is_ok_reply reply ≡ true → is_ok_reply (reply_to (replied reply a)) ≡ true
would-do {X} reply a x passes ok = ap (λ (b : Asked X). is_ok_reply (reply_to (replied reply b))) passes ∙ ok

-- ---- once a place was made, all else is as before

module _ {S : Type 0} (before after : RowSpace S) (kept : after ≡ record before { journal = after.journal }) where
  pub place-told : told after.table ≡ told before.table
  place-told = ap (λ (r : RowSpace S). told r.table) kept

  pub place-stands : (state : State FileBlocks) → StandsFor (told before.table) before.snaps state → StandsFor (told after.table) after.snaps state
  place-stands state = subst (λ (r : RowSpace S). StandsFor (told r.table) r.snaps state) (sym kept)

  pub place-seat : (state : State FileBlocks) (path : Names) (seat : Seat) → IsSeat (told after.table).rows state path seat → IsSeat (told before.table).rows state path seat
  place-seat state path seat = subst (λ (r : RowSpace S). IsSeat (told r.table).rows state path seat) kept

-- ---- branches

-- the same is held, and the journal has the same entries
pub record IsAlike {S : Type 0} (blocks : S → Option BlockMap) (greatest : S → ℕ) (before after : RowSpace S) : Type 0 where
  pub held : held blocks greatest after ≡ held blocks greatest before
  pub store : after.store ≡ before.store
  pub journal : after.journal.items ≡ before.journal.items
  pub limit : after.limit ≡ before.limit

-- the same value, but for room
pub alike-value : {S : Type 0} (blocks : S → Option BlockMap) (greatest : S → ℕ) (before after : RowSpace S) → IsAlike blocks greatest before after → value_of after after.journal.items ≡ value_of before before.journal.items
alike-value blocks greatest before after same = λ i. record { entries = same.journal i; store = same.store i; limit = same.limit i; table = (same.held i).table; snaps = (same.held i).snaps; waiting = (same.held i).waiting }

module _ {S : Type 0} (blocks : S → Option BlockMap) (greatest faults : S → ℕ) where
  pub alike : (space : RowSpace S) → IsAlike blocks greatest space space
  alike space = record { held = refl; store = refl; journal = refl; limit = refl }

  -- the call wasn't done: nothing that is held has changed
  pub not-done : (before after : RowSpace S) (call : Call) (result : Result Reply AskFault) (fault : AskFault) → IsErrAnd result (λ f. f ≡ fault) → IsAlike blocks greatest before after
      → ((plain : State (List ℕ)) → IsAt (held blocks greatest before) (tick_of before) plain → IsReason (is_full before) plain call fault)
      → (is_refusal fault ≡ true → after ≡ before) → (fault ≡ Refused refusals.StoreFault → ⊥) → IsOutcome blocks greatest faults before after call result
  not-done before after call (Ok reply) fault is same cause refused never = absurd is
  not-done before after call (Err other) fault is same cause refused never = record {
    made = tt;
    heavier = tt;
    cause = λ plain at. subst (IsReason (is_full before) plain call) (sym is) (cause plain at);
    kept = λ plain at. subst (λ (h : Held). IsAt h (tick_of before) plain) (sym same.held) at;
    refused = λ so. refused (ap is_refusal (sym is) ∙ so);
    undone_table = ap (λ (h : Held). h.table) same.held;
    undone_snaps = ap (λ (h : Held). h.snaps) same.held;
    undone = λ none. alike-value blocks greatest before after same;
    reads = λ none. same.held;
    journal = same.journal;
    limit = same.limit;
    place = tt;
    fault_place = λ fails. absurd (never (sym is ∙ same_err {T = Reply} fails));
    tells = ap (λ (s : S). is_some (blocks s)) same.store;
    count = subst (λ (s : S). faults before.store ≤ faults s) (sym same.store) (omega arith);
    rose = λ fails. absurd (never (sym is ∙ same_err {T = Reply} fails));
    store = λ none. same.store;
    waits = λ none. tt;
    freed = λ so. tt;
  }

  -- a test refuses
  pub refused-outcome : (space : RowSpace S) (call : Call) (result : Result Reply AskFault) (fault : AskFault) → IsErrAnd result (λ f. f ≡ fault) → IsStanding (held blocks greatest space) (tick_of space)
      → ((state : State FileBlocks) → StandsFor (told space.table) space.snaps state → IsFaultOf (asked block_files state call) fault) → IsOutcome blocks greatest faults space space call result
  refused-outcome space call result fault is standing tested =
      not-done space space call result fault is (alike space) (λ plain at. reason fault plain at (tested at.stands.state at.stands.stands)) (λ so. refl)
      (never-store (asked block_files standing.1.stands.state call) fault (tested standing.1.stands.state standing.1.stands.stands) (asked_never standing.1.stands.state call))
    where
      reason : (f : AskFault) (plain : State (List ℕ)) (at : IsAt (held blocks greatest space) (tick_of space) plain) → IsFaultOf (asked block_files at.stands.state call) f → IsReason (is_full space) plain call f
      reason (Refused why) plain at refused =
          let call_refused = refused-blanked (answer plain call) why (blanked_alike at.stands.state plain at.stands.sized call ∙ ap reply_to refused) in
          subst (λ b. IsWhy b (number_of why == 23) (is_full space) plain call why) (sym (asked_full at.stands.state call why refused))
          (subst (λ b. IsRefusal b plain call why) (sym (asked_never at.stands.state call why refused)) call_refused)
      reason NoMemory plain at refused = tt

  -- there is no place for its entry, though the call would be done
  pub place-outcome : (before after : RowSpace S) (call : Call) (result : Result Reply AskFault) (fault : AskFault) → IsErrAnd result (λ f. f ≡ fault) → IsPlaceFault (is_full before) fault
      → (is_refusal fault ≡ true → after ≡ before) → after ≡ record before { journal = after.journal } → after.journal.items ≡ before.journal.items
      → ((state : State FileBlocks) → StandsFor (told before.table) before.snaps state → is_ok_reply (answer_by block_files state call) ≡ true) → IsOutcome blocks greatest faults before after call result
  place-outcome before after call result fault is why refused kept items would =
      not-done before after call result fault is
      (record { held = ap (held blocks greatest) kept; store = ap (λ (r : RowSpace S). r.store) kept; journal = items; limit = ap (λ (r : RowSpace S). r.limit) kept })
      (λ plain at. reason fault why plain at (would at.stands.state at.stands.stands)) refused (never fault why)
    where
      reason : (f : AskFault) → IsPlaceFault (is_full before) f → (plain : State (List ℕ)) (at : IsAt (held blocks greatest before) (tick_of before) plain)
          → is_ok_reply (answer_by block_files at.stands.state call) ≡ true → IsReason (is_full before) plain call f
      reason (Refused other) f plain at ok =
          subst (λ (w : Refusal). IsWhy (number_of w == 22) (number_of w == 23) (is_full before) plain call w) (sym f.0)
          (f.1, sym (ok-blanked (answer plain call)) ∙ ap is_ok_reply (blanked_alike at.stands.state plain at.stands.sized call) ∙ ok)
      reason NoMemory f plain at ok = tt

      never : (f : AskFault) → IsPlaceFault (is_full before) f → f ≡ Refused refusals.StoreFault → ⊥
      never (Refused other) f same = let is = sym f.0 in cc
      never NoMemory f same = cc

  -- memory is wanted
  pub memory-outcome : (before after : RowSpace S) (call : Call) (result : Result Reply AskFault) → IsErrAnd result (λ f. f ≡ NoMemory) → IsAlike blocks greatest before after → IsOutcome blocks greatest faults before after call result
  memory-outcome before after call result is same = not-done before after call result NoMemory is same (λ plain at. tt) (λ so. absurd (cc)) (λ same. absurd (cc))

  -- the call is done, and the store wasn't asked
  pub done-outcome : (before after : RowSpace S) (call : Call) (reply : Reply) → ((plain : State (List ℕ)) → IsAt (held blocks greatest before) (tick_of before) plain → IsDone (held blocks greatest before) (held blocks greatest after) (tick_of before) call reply plain)
      → ((plain : State (List ℕ)) → IsAt (held blocks greatest before) (tick_of before) plain → weight (held blocks greatest after) (done plain call) ≤ weight (held blocks greatest before) plain + most_added call)
      → after.store ≡ before.store → after.journal.items ≡ before.journal.items → after.limit ≡ before.limit
      → HasPlace after → is_modifying call ≡ true → is_freeing call ≡ false → all_of after.waiting.items ≡ all_of before.waiting.items → IsOutcome blocks greatest faults before after call (Ok reply)
  done-outcome before after call reply is heavier store journal limit place modifies frees waits = record {
    made = is;
    heavier = heavier;
    cause = tt;
    kept = tt;
    refused = tt;
    undone_table = tt;
    undone_snaps = tt;
    undone = λ none. tt;
    reads = λ none. absurd (cc);
    journal = journal;
    limit = limit;
    place = place;
    fault_place = λ fails. absurd (cc);
    tells = ap (λ (s : S). is_some (blocks s)) store;
    count = subst (λ (s : S). faults before.store ≤ faults s) (sym store) (omega arith);
    rose = λ fails. absurd (cc);
    store = λ none. store;
    waits = λ none. waits;
    freed = λ so. absurd (cc);
  }
