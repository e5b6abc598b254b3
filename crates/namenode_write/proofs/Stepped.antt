-- From the outcome of a call over rows to the step of a namenode.
use Rattle.std.proofs.Common.{◌≡◌, ℕ, ◌+◌, ◌<◌, ◌≤◌, Bool, true, false, cond, ◌&&◌, ◌||◌, Option, Some, None, take, List, [], ◌∷◌, ◌++◌, length, Ok, Err, Result, is_some, refl, ap, sym, subst, ◌∙◌, arith, length-append, append-nil}
use Rattle.std.proofs.lemmas.Bool.Decides.{nat_tests}
use Rattle.std.specs.Prelude.{IfOk, IfErr, OnOk, OnErr, IsErrOf, not, nat_lt}
use Rattle.std.proofs.Math.Seq.{take-length}
use Rattle.std.specs.Option.{option_to_list}
use Rattle.hs_types.specs.Blocks.{BlockMap}
use Rattle.hs_types.specs.Faults.{Rose}
use Rattle.hs_types.specs.declared.ids.CallerId.{CallerId}
use Rattle.hs_types.specs.declared.call.Call.{Call}
use Rattle.hs_types.specs.declared.reply.Reply.{Reply}
use Rattle.hs_types.specs.declared.reply.Reply.TheVariants as replies
use Rattle.hs_types.specs.declared.reply.Answered.{Answered}
use Rattle.hs_types.specs.declared.refusal.Refusal.{Refusal}
use Rattle.hs_types.specs.declared.refusal.Refusal.TheVariants as refusals
use Rattle.hs_types.specs.declared.journal.EntryKind.TheVariants.{Accepted, Faulted}
use Rattle.hs_types.specs.declared.journal.Entry.{Entry}
use Rattle.hs_plain.specs.declared.state.State.{State}
use Rattle.hs_plain.specs.declared.resolve.AskFault.{AskFault}
use Rattle.hs_plain.specs.declared.resolve.AskFault.TheVariants.{Refused, NoMemory}
use Rattle.hs_plain.specs.Files.{plain_files}
use Rattle.hs_plain.specs.inside.Faults.{told_reply}
use Rattle.hs_plain.specs.Answer.{answer, claimed, is_modifying, is_exclusive, is_ok_reply, is_store_fault, is_plain_reply, is_journal_full}
use Rattle.hs_plain.specs.Change.{change, changed_if, is_accepted, after as after_entry, ticked}
use Rattle.hs_plain.specs.Replay.{may_follow, plain_after, is_proper}
use Rattle.hs_plain.specs.State.{start}
use Rattle.hs_plain.specs.Legal.{IsFullAt, Said, entry_of, entry_left, leaves_entry}
use Rattle.inode_table.specs.Kept.{told as told_table}
use Rattle.namenode_write.specs.declared.rows.space.RowSpace.{RowSpace}
use Rattle.namenode_write.specs.Faulted.{fault_count}
use Rattle.namenode_write.specs.Outcome.{is_full, HasPlace, IsOutcome, is_refusal, most_added, tick_of}
use Rattle.namenode_write.specs.Rows.{Held, held, all_of, value_of, weight, done, IsAt, IsDone}
use Rattle.namenode_write.specs.Step.{IsConsistent, IsStep, is_refused}
use Rattle.namenode_write.proofs.FaultCountLaws.{counted_call}
use Rattle.namenode_write.proofs.Ending.{IsEnded, ended}
use Rattle.namenode_write.proofs.Journals.{and_false, or_false, ok_no_fault, fault_number, is_fault, leaves_ok, refused_leaves, replay_from-push, proper_from-push, faults_told, legal_entered, legal_back, rose}

-- a refusal leaves no entry
refused-leaves : (call : Call) (reply : Reply) → is_refused reply ≡ true → leaves_entry call reply ≡ false
refused-leaves call (replies.Made id) so = absurd (cc)
refused-leaves call replies.Done so = absurd (cc)
refused-leaves call (replies.Bytes bytes next) so = absurd (cc)
refused-leaves call (replies.Stat id is_dir mode stamp size) so = absurd (cc)
refused-leaves call (replies.Page items next) so = absurd (cc)
refused-leaves call (replies.SnapMade id) so = absurd (cc)
refused-leaves call (replies.Snaps dir list) so = absurd (cc)
refused-leaves call (replies.Dirs list) so = absurd (cc)
refused-leaves call (replies.Report lines next) so = absurd (cc)
refused-leaves call (replies.Refused why) so = refused_leaves call why ∙ sym (fault_number why) ∙ turned (is_store_fault (replies.Refused why)) so
  where
    turned : (b : Bool) → not b ≡ true → b ≡ false
    turned true t = absurd (cc)
    turned false t = refl
refused-leaves call replies.NoMemory so = absurd (cc)

-- the state after a call that is done is the one after its entry, or it leaves none
done-state : (caller : CallerId) (seq : ℕ) (call : Call) (reply : Reply) (plain : State (List ℕ)) → is_ok_reply reply ≡ true → leaves_entry call reply ≡ true → done plain call ≡ after_entry plain_files plain (entry_of caller seq call reply)
done-state caller seq call reply plain ok leaves =
    let modifies : is_modifying call ≡ true = sym (leaves_ok call reply ok) ∙ leaves in
    ap (λ b. cond b (ticked (change plain_files plain call)) plain) modifies
    ∙ sym (ap (λ b. ticked (changed_if b plain_files plain call)) (ap (λ b. is_accepted (cond b Faulted Accepted) && is_modifying call) (ok_no_fault reply ok) ∙ modifies))

-- a call that is done isn't refused
ok-refused : (reply : Reply) → is_ok_reply reply ≡ true → is_refused reply ≡ false
ok-refused (replies.Made id) ok = refl
ok-refused replies.Done ok = refl
ok-refused (replies.Bytes bytes next) ok = refl
ok-refused (replies.Stat id is_dir mode stamp size) ok = refl
ok-refused (replies.Page items next) ok = refl
ok-refused (replies.SnapMade id) ok = refl
ok-refused (replies.Snaps dir list) ok = refl
ok-refused (replies.Dirs list) ok = refl
ok-refused (replies.Report lines next) ok = refl
ok-refused (replies.Refused why) ok = absurd (cc)
ok-refused replies.NoMemory ok = absurd (cc)

-- a call that isn't done leaves an entry only where the store failed
fault-left : (call : Call) (reply : Reply) → leaves_entry call reply ≡ true → is_ok_reply reply ≡ false → is_store_fault reply ≡ true
fault-left call reply leaves unmade =
    sym (ap (λ b. is_store_fault reply || (is_modifying call && b)) unmade ∙ ap (λ b. is_store_fault reply || b) (and_false (is_modifying call)) ∙ or_false (is_store_fault reply)) ∙ leaves

-- where the same is held, only entries and store may differ
read-value : {S : Type 0} (blocks : S → Option BlockMap) (greatest : S → ℕ) (before after : RowSpace S) → held blocks greatest after ≡ held blocks greatest before → after.limit ≡ before.limit
    → value_of after after.journal.items ≡ record (value_of before before.journal.items) { entries = after.journal.items; store = after.store }
read-value blocks greatest before after same limit = λ i. record { entries = after.journal.items; store = after.store; limit = limit i; table = (same i).table; snaps = (same i).snaps; waiting = (same i).waiting }

-- the number of entries is at the limit
at_limit : (tick limit : ℕ) → not (nat_lt tick limit) ≡ true → tick ≤ limit → tick ≡ limit
at_limit tick limit full within = grind (arith, nat_tests)

module _ {S : Type 0} (blocks : S → Option BlockMap) (greatest faults : S → ℕ) (before after : RowSpace S) (caller : CallerId) (seq : ℕ) (call : Call) (result : Result Reply AskFault) (reply : Reply)
    (was : IsConsistent blocks greatest faults before before.journal.items) (out : IsOutcome blocks greatest faults before after call result) (tells : reply ≡ told_reply result) where
  abbrev plain : State (List ℕ)
  plain = plain_after before.journal.items

  end : IsEnded (held blocks greatest before) (held blocks greatest after) (tick_of before) (is_full before) caller seq call reply plain
  end = ended (held blocks greatest before) (held blocks greatest after) (tick_of before) (is_full before) caller seq call plain result reply was.at tells out.made out.cause out.kept

  -- where an entry is due there is a place for it
  pub has-place : leaves_entry call reply ≡ true → HasPlace after
  has-place leaves = by result tells out.place out.fault_place
    where
      by : (r : Result Reply AskFault) → reply ≡ told_reply r → OnOk r (HasPlace after) → (IsErrOf r (Refused refusals.StoreFault) → HasPlace after) → HasPlace after
      by (Ok given) same place fault = place
      by (Err (Refused why)) same place fault =
          fault (ap (λ (w : Refusal). Err (Refused w)) (is_fault why (fault_number why ∙ sym (refused_leaves call why) ∙ ap (leaves_entry call) (sym same) ∙ leaves)))
      by (Err NoMemory) same place fault = absurd (cc (and_false (is_modifying call), ap (leaves_entry call) same, leaves))

  ok_told : IfOk result (λ given. is_ok_reply given ≡ true)
  ok_told = by result out.made
    where
      by : (r : Result Reply AskFault) → IfOk r (λ given. (p : State (List ℕ)) → IsAt (held blocks greatest before) (tick_of before) p → IsDone (held blocks greatest before) (held blocks greatest after) (tick_of before) call given p) → IfOk r (λ given. is_ok_reply given ≡ true)
      by (Ok given) made = (made plain was.at).ok
      by (Err fault) made = tt

  store_rose : is_store_fault reply ≡ true → Rose (faults before.store) (faults after.store)
  store_rose = rose (faults before.store) (faults after.store) result reply tells ok_told out.rose

  -- what is said where the call was done
  if_done : (P : Type 0) → OnOk result P → is_ok_reply reply ≡ true → P
  if_done P is ok = by result is tells
    where
      by : (r : Result Reply AskFault) → OnOk r P → reply ≡ told_reply r → P
      by (Ok given) p same = p
      by (Err (Refused why)) p same = absurd (cc)
      by (Err NoMemory) p same = absurd (cc)

  -- what is said where it wasn't done
  if_undone : (P : Type 0) → OnErr result P → is_ok_reply reply ≡ false → P
  if_undone P is undone = by result ok_told is tells
    where
      by : (r : Result Reply AskFault) → IfOk r (λ given. is_ok_reply given ≡ true) → OnErr r P → reply ≡ told_reply r → P
      by (Ok given) ok p same = absurd (cc (ok, ap is_ok_reply same, undone))
      by (Err fault) ok p same = p

  -- the journal was below its limit
  below-limit : is_ok_reply reply ≡ true → tick_of before < before.limit
  below-limit ok =
      let has = if_done (HasPlace after) out.place ok in
      let entries = ap length out.journal in
      omega (arith, has.below, entries, out.limit)

  -- what is said where it was refused
  if_refused : (P : Type 0) → IfErr result (λ fault. is_refusal fault ≡ true → P) → is_refused reply ≡ true → P
  if_refused P is refused = by result ok_told is tells
    where
      by : (r : Result Reply AskFault) → IfOk r (λ given. is_ok_reply given ≡ true) → IfErr r (λ fault. is_refusal fault ≡ true → P) → reply ≡ told_reply r → P
      by (Ok given) ok p same = absurd (cc (ok-refused given ok, ap is_refused same, refused))
      by (Err (Refused why)) ok p same = p (ap not (sym (fault_number why)) ∙ ap is_refused (sym same) ∙ refused)
      by (Err NoMemory) ok p same = absurd (cc (ap is_refused same, refused))

  -- the reply, over a store that tells as before
  replied-alike : (tells_now : Bool) (told : Answered) → told.reply ≡ reply → tells_now ≡ is_some (blocks before.store) → is_plain_reply told.reply ≡ true → claimed tells_now told.reply ≡ claimed tells_now (answer plain call)
  replied-alike tells_now told is alike own =
      subst (λ b. claimed b told.reply ≡ claimed b (answer plain call)) (sym alike)
      (ap (claimed (is_some (blocks before.store))) is ∙ end.answered (ap is_plain_reply (sym is) ∙ own))

  -- ---- a call that is entered

  module _ (final : RowSpace S) (told : Answered) (same : final ≡ record after { journal = final.journal }) (is : told.reply ≡ reply)
      (grows : final.journal.items ≡ after.journal.items ++ entry_of caller seq call reply ∷ []) (place : told.position ≡ length after.journal.items) (kept : told.back ≡ None) (leaves : leaves_entry call reply ≡ true) where
    abbrev entry : Entry
    entry = entry_of caller seq call reply

    store_same : final.store ≡ after.store
    store_same = ap (λ (r : RowSpace S). r.store) same

    limit_same : final.limit ≡ after.limit
    limit_same = ap (λ (r : RowSpace S). r.limit) same

    held_same : held blocks greatest final ≡ held blocks greatest after
    held_same = ap (held blocks greatest) same

    longer : final.journal.items ≡ before.journal.items ++ entry ∷ []
    longer = grows ∙ ap (λ (entries : List Entry). entries ++ entry ∷ []) out.journal

    plain_longer : plain_after final.journal.items ≡ after_entry plain_files plain entry
    plain_longer = ap plain_after longer ∙ replay_from-push plain_files start before.journal.items entry

    one_more : length final.journal.items ≡ tick_of before + 1
    one_more = ap length longer ∙ length-append before.journal.items (entry ∷ [])

    same_tick : tick_of after ≡ tick_of before
    same_tick = ap length out.journal

    within : length final.journal.items ≤ final.limit
    within = let has = has-place leaves in omega (arith, has.below, one_more, same_tick, limit_same)

    most : final.limit ≤ 1000000
    most = omega (arith, was.most, limit_same, out.limit)

    pub entered-consistent : IsConsistent blocks greatest faults final final.journal.items
    entered-consistent = record {
      at =
          subst (λ (h : Held). IsAt h (length final.journal.items) (plain_after final.journal.items)) (sym held_same)
          (subst (λ (n : ℕ). IsAt (held blocks greatest after) n (plain_after final.journal.items)) (sym one_more)
          (subst (λ (p : State (List ℕ)). IsAt (held blocks greatest after) (tick_of before + 1) p) (sym plain_longer) (end.entered leaves)));
      proper = ap is_proper longer ∙ proper_from-push start before.journal.items entry ∙ ap (λ b. b && may_follow plain entry) was.proper ∙ end.follows leaves;
      within = within;
      most = most;
      faults_counted = subst (λ (s : S). fault_count final.journal.items ≤ faults s) (sym store_same)
          (faults_told (is_store_fault reply) (faults before.store) (faults after.store) before.journal.items final.journal.items caller seq call reply refl longer was.faults_counted out.count store_rose (omega (arith, within, most)));
    }

    abbrev said : Said
    said = record { seq = seq; call = call; told = told }

    left : option_to_list (entry_left caller said) ≡ entry ∷ []
    left =
        ap (λ (r : Reply). option_to_list (cond (leaves_entry call r) (Some (entry_of caller seq call r)) None)) is
        ∙ ap (λ b. option_to_list (cond b (Some entry) None)) leaves

    appended : final.journal.items ≡ before.journal.items ++ option_to_list (entry_left caller said)
    appended = longer ∙ ap (λ (more : List Entry). before.journal.items ++ more) (sym left)

    tells_same : is_some (blocks final.store) ≡ is_some (blocks before.store)
    tells_same = ap (λ (s : S). is_some (blocks s)) store_same ∙ out.tells

    cause : is_store_fault told.reply ≡ true → Rose (faults before.store) (faults final.store)
    cause fault = subst (λ (s : S). Rose (faults before.store) (faults s)) (sym store_same) (store_rose (ap is_store_fault (sym is) ∙ fault))

    count : faults before.store ≤ faults final.store
    count = subst (λ (s : S). faults before.store ≤ faults s) (sym store_same) out.count

    pub entered-step : IsStep blocks greatest faults (value_of before before.journal.items) (value_of final final.journal.items) caller seq call told
    entered-step = record {
      legal = legal_entered (is_some (blocks final.store)) final.limit before.journal.items final.journal.items caller seq call told
          (longer ∙ ap (λ (r : Reply). before.journal.items ++ entry_of caller seq call r ∷ []) (sym is)) (place ∙ same_tick) kept (ap (leaves_entry call) is ∙ leaves)
          (replied-alike (is_some (blocks final.store)) told is tells_same);
      place = place ∙ same_tick;
      appended = appended;
      limit = limit_same ∙ out.limit;
      within = within;
      below = λ ok. below-limit (ap is_ok_reply (sym is) ∙ ok);
      refused = λ so. absurd (cc (refused-leaves call told.reply so, ap (leaves_entry call) is, leaves));
      undone_table = λ unmade. ap (λ (h : Held). h.table) held_same ∙ if_undone (told_table after.table ≡ told_table before.table) out.undone_table (ap is_ok_reply (sym is) ∙ unmade);
      undone_snaps = λ unmade. ap (λ (h : Held). h.snaps) held_same ∙ if_undone (after.snaps ≡ before.snaps) out.undone_snaps (ap is_ok_reply (sym is) ∙ unmade);
      undone = λ none unmade. absurd (cc (none, (end.faulted (fault-left call reply leaves (ap is_ok_reply (sym is) ∙ unmade))).0));
      reads = λ none. read-value blocks greatest before final (held_same ∙ out.reads none) (limit_same ∙ out.limit);
      read_blocks = λ none. ap (λ (h : Held). h.store) (held_same ∙ out.reads none);
      read_greatest = λ none. ap (λ (h : Held). h.greatest) (held_same ∙ out.reads none);
      cause = cause;
      faulted = λ fault. end.faulted (ap is_store_fault (sym is) ∙ fault);
      tells = tells_same;
      count = count;
      counted = counted_call faults (value_of before before.journal.items) (value_of final final.journal.items) caller said appended cause count;
      storeless = λ so. store_same ∙ out.store so;
      waits = λ none ok. ap (λ (h : Held). h.waiting) held_same ∙ if_done (all_of after.waiting.items ≡ all_of before.waiting.items) (out.waits none) (ap is_ok_reply (sym is) ∙ ok);
      freed = λ frees ok no. ap (λ (r : RowSpace S). all_of r.waiting.items) same
          ∙ if_done ((Rose (faults before.store) (faults after.store) → ⊥) → all_of after.waiting.items ≡ []) (out.freed frees) (ap is_ok_reply (sym is) ∙ ok)
          (λ rises. no (subst (λ (s : S). Rose (faults before.store) (faults s)) (sym store_same) rises));
      heavier = λ ok.
          let done_ok = ap is_ok_reply (sym is) ∙ ok in
          let light = if_done ((p : State (List ℕ)) → IsAt (held blocks greatest before) (tick_of before) p → weight (held blocks greatest after) (done p call) ≤ weight (held blocks greatest before) p + most_added call) out.heavier done_ok plain was.at in
          subst (λ (h : Held). weight h (plain_after final.journal.items) ≤ weight (held blocks greatest before) plain + most_added call) (sym held_same)
          (subst (λ (p : State (List ℕ)). weight (held blocks greatest after) p ≤ weight (held blocks greatest before) plain + most_added call) (done-state caller seq call reply plain done_ok leaves ∙ sym plain_longer) light);
    }

  -- ---- a call that is handed back

  module _ (exclusive : is_exclusive call ≡ true) (told : Answered) (is : told.reply ≡ reply) (place : told.position ≡ length after.journal.items) (back : told.back ≡ Some call) (leaves : leaves_entry call reply ≡ false) where
    pub back-consistent : IsConsistent blocks greatest faults after after.journal.items
    back-consistent = record {
      at = subst (λ (entries : List Entry). IsAt (held blocks greatest after) (length entries) (plain_after entries)) (sym out.journal) (end.unchanged leaves);
      proper = ap is_proper out.journal ∙ was.proper;
      within = omega (arith, was.within, ap length out.journal, out.limit);
      most = omega (arith, was.most, out.limit);
      faults_counted = omega (arith, was.faults_counted, out.count, ap fault_count out.journal);
    }

    abbrev back_said : Said
    back_said = record { seq = seq; call = call; told = told }

    left_none : option_to_list (entry_left caller back_said) ≡ []
    left_none =
        ap (λ (r : Reply). option_to_list (cond (leaves_entry call r) (Some (entry_of caller seq call r)) None)) is
        ∙ ap (λ b. option_to_list (cond b (Some (entry_of caller seq call reply)) None)) leaves

    unlonger : after.journal.items ≡ before.journal.items ++ option_to_list (entry_left caller back_said)
    unlonger = out.journal ∙ sym (append-nil before.journal.items) ∙ ap (λ (more : List Entry). before.journal.items ++ more) (sym left_none)

    back_cause : is_store_fault told.reply ≡ true → Rose (faults before.store) (faults after.store)
    back_cause fault = store_rose (ap is_store_fault (sym is) ∙ fault)

    plain_same : plain_after after.journal.items ≡ plain
    plain_same = ap plain_after out.journal

    front : take told.position after.journal.items ≡ after.journal.items
    front = ap (λ n. take n after.journal.items) place ∙ take-length after.journal.items

    full_at : is_journal_full told.reply ≡ true → IsFullAt after.limit after.journal.items call told.position
    full_at full =
        let why = end.at_limit (ap is_journal_full (sym is) ∙ full) in
        record {
          exclusive = exclusive;
          would_do = ap (λ (entries : List Entry). is_ok_reply (answer (plain_after entries) call)) front ∙ ap (λ (p : State (List ℕ)). is_ok_reply (answer p call)) plain_same ∙ why.1;
          at_limit = place ∙ ap length out.journal ∙ at_limit (tick_of before) before.limit why.0 was.within ∙ sym out.limit;
        }

    pub back-step : IsStep blocks greatest faults (value_of before before.journal.items) (value_of after after.journal.items) caller seq call told
    back-step = record {
      legal = legal_back (is_some (blocks after.store)) after.limit after.journal.items caller seq call told place back (ap (leaves_entry call) is ∙ leaves) full_at
          (λ own. replied-alike (is_some (blocks after.store)) told is out.tells own ∙ ap (λ (p : State (List ℕ)). claimed (is_some (blocks after.store)) (answer p call)) (sym plain_same));
      place = place ∙ ap length out.journal;
      appended = unlonger;
      limit = out.limit;
      within = omega (arith, was.within, ap length out.journal, out.limit);
      below = λ ok. below-limit (ap is_ok_reply (sym is) ∙ ok);
      refused = λ so. ap (λ (r : RowSpace S). value_of r r.journal.items) (if_refused (after ≡ before) out.refused (ap is_refused (sym is) ∙ so));
      undone_table = λ unmade. if_undone (told_table after.table ≡ told_table before.table) out.undone_table (ap is_ok_reply (sym is) ∙ unmade);
      undone_snaps = λ unmade. if_undone (after.snaps ≡ before.snaps) out.undone_snaps (ap is_ok_reply (sym is) ∙ unmade);
      undone = λ none unmade. if_undone (value_of after after.journal.items ≡ value_of before before.journal.items) (out.undone none) (ap is_ok_reply (sym is) ∙ unmade);
      reads = λ none. read-value blocks greatest before after (out.reads none) out.limit;
      read_blocks = λ none. ap (λ (h : Held). h.store) (out.reads none);
      read_greatest = λ none. ap (λ (h : Held). h.greatest) (out.reads none);
      cause = back_cause;
      faulted = λ fault. end.faulted (ap is_store_fault (sym is) ∙ fault);
      tells = out.tells;
      count = out.count;
      counted = counted_call faults (value_of before before.journal.items) (value_of after after.journal.items) caller back_said unlonger back_cause out.count;
      storeless = out.store;
      waits = λ none ok. if_done (all_of after.waiting.items ≡ all_of before.waiting.items) (out.waits none) (ap is_ok_reply (sym is) ∙ ok);
      freed = λ frees ok. if_done ((Rose (faults before.store) (faults after.store) → ⊥) → all_of after.waiting.items ≡ []) (out.freed frees) (ap is_ok_reply (sym is) ∙ ok);
      heavier = λ ok.
          let done_ok = ap is_ok_reply (sym is) ∙ ok in
          let reads : is_modifying call ≡ false = sym (leaves_ok call reply done_ok) ∙ leaves in
          let light = if_done ((p : State (List ℕ)) → IsAt (held blocks greatest before) (tick_of before) p → weight (held blocks greatest after) (done p call) ≤ weight (held blocks greatest before) p + most_added call) out.heavier done_ok plain was.at in
          subst (λ (p : State (List ℕ)). weight (held blocks greatest after) p ≤ weight (held blocks greatest before) plain + most_added call) (ap (λ b. cond b (ticked (change plain_files plain call)) plain) reads ∙ sym plain_same) light;
    }
