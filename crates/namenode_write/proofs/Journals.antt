-- Journals that are one longer, and replies and entries that calls leave.
use Rattle.std.proofs.Common.{◌≡◌, ℕ, ◌+◌, ◌-◌, ◌^◌, ◌<◌, ◌≤◌, Some, None, Ok, Err, Result, slice_get, Bool, true, false, cond, if◌then◌else◌, ◌&&◌, ◌||◌, ◌==◌, List, [], ◌∷◌, ◌++◌, take, length, refl, ap, sym, subst, ◌∙◌, length-append, arith}
use Rattle.std.specs.Prelude.{IfOk, IsErrOf, min}
use Rattle.std.proofs.lemmas.List.Sums.{count_by-le-length, sum_by-append}
use Rattle.std.proofs.Math.Seq.{take-append_seam, take-length}
use Rattle.hs_types.specs.Refusals.{number_of}
use Rattle.hs_types.specs.declared.ids.CallerId.{CallerId}
use Rattle.hs_types.specs.declared.call.Call.{Call}
use Rattle.hs_types.specs.declared.reply.Reply.{Reply}
use Rattle.hs_types.specs.declared.reply.Reply.TheVariants as replies
use Rattle.hs_types.specs.declared.refusal.Refusal.{Refusal}
use Rattle.hs_types.specs.declared.refusal.Refusal.TheVariants.{StoreFault}
use Rattle.hs_types.specs.declared.refusal.Refusal.TheVariants as refusals
use Rattle.hs_types.specs.declared.journal.EntryKind.TheVariants.{Accepted, Faulted}
use Rattle.hs_types.specs.declared.journal.Entry.{Entry}
use Rattle.hs_types.specs.declared.reply.Answered.{Answered}
use Rattle.hs_plain.specs.declared.state.State.{State}
use Rattle.hs_plain.specs.declared.resolve.AskFault.{AskFault}
use Rattle.hs_plain.specs.declared.resolve.AskFault.TheVariants.{Refused, NoMemory}
use Rattle.hs_plain.specs.Files.{Files, plain_files}
use Rattle.hs_plain.specs.inside.Faults.{told_reply}
use Rattle.hs_plain.specs.Answer.{answer, blanked, claimed, is_modifying, is_ok_reply, Origin, machine, store, limit, memory, origin_of, is_machine, is_store, is_limit, is_store_fault, is_plain_reply, is_journal_full}
use Rattle.hs_plain.specs.Change.{after}
use Rattle.hs_plain.specs.Replay.{replay_from, proper_from, may_follow, plain_after}
use Rattle.hs_plain.specs.Legal.{IsFullAt, IsLegalCall, entry_of, leaves_entry}
use Rattle.hs_types.specs.Faults.{Rose}
use Rattle.namenode_write.specs.Faulted.{is_faulted, fault_count}

pub replay_from-push : {B : Type 0} (files : Files B) (state : State B) (entries : List Entry) (entry : Entry) → replay_from files state (entries ++ entry ∷ []) ≡ after files (replay_from files state entries) entry
replay_from-push files state [] entry = refl
replay_from-push files state (e ∷ entries) entry = replay_from-push files (after files state e) entries entry

pub and_true : (a : Bool) → (a && true) ≡ a
and_true true = refl
and_true false = refl

pub and_false : (a : Bool) → (a && false) ≡ false
and_false true = refl
and_false false = refl

pub or_false : (a : Bool) → (a || false) ≡ a
or_false true = refl
or_false false = refl

pub and_assoc : (a b c : Bool) → (a && (b && c)) ≡ (a && b && c)
and_assoc true b c = refl
and_assoc false b c = refl

pub proper_from-push : (state : State (List ℕ)) (entries : List Entry) (entry : Entry) → proper_from state (entries ++ entry ∷ []) ≡ (proper_from state entries && may_follow (replay_from plain_files state entries) entry)
proper_from-push state [] entry = and_true (may_follow state entry)
proper_from-push state (e ∷ entries) entry =
    ap (λ b. may_follow state e && b) (proper_from-push (after plain_files state e) entries entry)
    ∙ and_assoc (may_follow state e) (proper_from (after plain_files state e) entries) (may_follow (replay_from plain_files (after plain_files state e) entries) entry)

pub fault_count-push : (entries : List Entry) (entry : Entry) → fault_count (entries ++ entry ∷ []) ≡ fault_count entries + fault_count (entry ∷ [])
fault_count-push entries entry = sum_by-append (λ entry. cond (is_faulted entry.kind) 1 0) entries (entry ∷ [])

-- an entry adds at most one to the count of faults
pub fault_count-more : (entries : List Entry) (entry : Entry) → fault_count (entries ++ entry ∷ []) ≤ fault_count entries + 1
fault_count-more entries entry = omega (arith, fault_count-push entries entry, count_by-le-length (λ entry. is_faulted entry.kind) (entry ∷ []))

-- and an accepted one adds none
pub fault_count-accepted : (entries : List Entry) (entry : Entry) → is_faulted entry.kind ≡ false → fault_count (entries ++ entry ∷ []) ≡ fault_count entries
fault_count-accepted entries entry accepted =
    let none : fault_count (entry ∷ []) ≡ 0 = ap (λ b. 0 + cond b 1 0) accepted in
    omega (arith, fault_count-push entries entry)

pub ok_no_fault : (reply : Reply) → is_ok_reply reply ≡ true → is_store_fault reply ≡ false
ok_no_fault (replies.Made id) ok = refl
ok_no_fault replies.Done ok = refl
ok_no_fault (replies.Bytes bytes at) ok = refl
ok_no_fault (replies.Stat id is_dir mode stamp size) ok = refl
ok_no_fault (replies.Page items at) ok = refl
ok_no_fault (replies.SnapMade id) ok = refl
ok_no_fault (replies.Snaps dir list) ok = refl
ok_no_fault (replies.Dirs list) ok = refl
ok_no_fault (replies.Report lines at) ok = refl
ok_no_fault (replies.Refused why) ok = absurd (cc)
ok_no_fault replies.NoMemory ok = refl

-- a fault of the store is told by its number
pub fault_number : (why : Refusal) → is_store_fault (replies.Refused why) ≡ (number_of why == 23)
fault_number refusals.BadPath = refl
fault_number refusals.TooLong = refl
fault_number refusals.TooDeep = refl
fault_number refusals.Reserved = refl
fault_number refusals.ReadOnly = refl
fault_number refusals.NotFound = refl
fault_number refusals.NotDir = refl
fault_number refusals.NotFile = refl
fault_number refusals.Exists = refl
fault_number refusals.NotSnapshotName = refl
fault_number refusals.IsRoot = refl
fault_number refusals.NotEmpty = refl
fault_number refusals.HasSnapshots = refl
fault_number refusals.IntoItself = refl
fault_number refusals.NotSnapshottable = refl
fault_number refusals.Nested = refl
fault_number refusals.SnapshotExists = refl
fault_number refusals.NoSnapshot = refl
fault_number refusals.SnapshotLimit = refl
fault_number refusals.Gone = refl
fault_number (refusals.Moved begun reached) = refl
fault_number refusals.JournalFull = refl
fault_number StoreFault = refl

pub refused_leaves : (call : Call) (why : Refusal) → leaves_entry call (replies.Refused why) ≡ (number_of why == 23)
refused_leaves call why =
    ap (λ b. is_store_fault (replies.Refused why) || b) (and_false (is_modifying call)) ∙ or_false (is_store_fault (replies.Refused why)) ∙ fault_number why

-- a reply of the plain machine and one by a fault of the store don't say that the journal is full
pub machine_not_full : (origin : Origin) → is_machine origin ≡ true → is_limit origin ≡ false
machine_not_full machine so = refl
machine_not_full store so = absurd (cc)
machine_not_full limit so = absurd (cc)
machine_not_full memory so = absurd (cc)

pub store_not_full : (origin : Origin) → is_store origin ≡ true → is_limit origin ≡ false
store_not_full machine so = absurd (cc)
store_not_full store so = refl
store_not_full limit so = absurd (cc)
store_not_full memory so = absurd (cc)

pub store_not_machine : (origin : Origin) → is_store origin ≡ true → is_machine origin ≡ false
store_not_machine machine so = absurd (cc)
store_not_machine store so = refl
store_not_machine limit so = absurd (cc)
store_not_machine memory so = absurd (cc)

pub ok_not_full : (reply : Reply) → is_ok_reply reply ≡ true → is_journal_full reply ≡ false
ok_not_full (replies.Made id) ok = refl
ok_not_full replies.Done ok = refl
ok_not_full (replies.SnapMade id) ok = refl
ok_not_full (replies.Bytes bytes at) ok = refl
ok_not_full (replies.Stat id is_dir mode stamp size) ok = refl
ok_not_full (replies.Page items at) ok = refl
ok_not_full (replies.Snaps dir list) ok = refl
ok_not_full (replies.Dirs list) ok = refl
ok_not_full (replies.Report lines at) ok = refl
ok_not_full (replies.Refused why) ok = absurd (cc)
ok_not_full replies.NoMemory ok = absurd (cc)

pub refused-blanked : (reply : Reply) (why : Refusal) → blanked reply ≡ replies.Refused why → reply ≡ replies.Refused why
refused-blanked (replies.Made id) why same = same
refused-blanked replies.Done why same = same
refused-blanked (replies.Bytes bytes next) why same = cc
refused-blanked (replies.Stat id is_dir mode stamp size) why same = same
refused-blanked (replies.Page items next) why same = same
refused-blanked (replies.SnapMade id) why same = same
refused-blanked (replies.Snaps dir list) why same = same
refused-blanked (replies.Dirs list) why same = same
refused-blanked (replies.Report lines next) why same = same
refused-blanked (replies.Refused other) why same = same
refused-blanked replies.NoMemory why same = same

pub ok-blanked : (reply : Reply) → is_ok_reply (blanked reply) ≡ is_ok_reply reply
ok-blanked (replies.Made id) = refl
ok-blanked replies.Done = refl
ok-blanked (replies.Bytes bytes at) = refl
ok-blanked (replies.Stat id is_dir mode stamp size) = refl
ok-blanked (replies.Page items at) = refl
ok-blanked (replies.SnapMade id) = refl
ok-blanked (replies.Snaps dir list) = refl
ok-blanked (replies.Dirs list) = refl
ok-blanked (replies.Report lines at) = refl
ok-blanked (replies.Refused why) = refl
ok-blanked replies.NoMemory = refl

pub ok-claimed : (tells : Bool) (reply : Reply) → is_ok_reply (claimed tells reply) ≡ is_ok_reply reply
ok-claimed true reply = refl
ok-claimed false reply = ok-blanked reply

-- whether an Ok reply leaves an entry
pub leaves_ok : (call : Call) (reply : Reply) → is_ok_reply reply ≡ true → leaves_entry call reply ≡ is_modifying call
leaves_ok call reply ok =
    ap (λ b. b || (is_modifying call && is_ok_reply reply)) (ok_no_fault reply ok)
    ∙ ap (λ b. is_modifying call && b) ok
    ∙ and_true (is_modifying call)

pub is_fault : (why : Refusal) → is_store_fault (replies.Refused why) ≡ true → why ≡ StoreFault
is_fault refusals.BadPath so = absurd (cc)
is_fault refusals.TooLong so = absurd (cc)
is_fault refusals.TooDeep so = absurd (cc)
is_fault refusals.Reserved so = absurd (cc)
is_fault refusals.ReadOnly so = absurd (cc)
is_fault refusals.NotFound so = absurd (cc)
is_fault refusals.NotDir so = absurd (cc)
is_fault refusals.NotFile so = absurd (cc)
is_fault refusals.Exists so = absurd (cc)
is_fault refusals.NotSnapshotName so = absurd (cc)
is_fault refusals.IsRoot so = absurd (cc)
is_fault refusals.NotEmpty so = absurd (cc)
is_fault refusals.HasSnapshots so = absurd (cc)
is_fault refusals.IntoItself so = absurd (cc)
is_fault refusals.NotSnapshottable so = absurd (cc)
is_fault refusals.Nested so = absurd (cc)
is_fault refusals.SnapshotExists so = absurd (cc)
is_fault refusals.NoSnapshot so = absurd (cc)
is_fault refusals.SnapshotLimit so = absurd (cc)
is_fault refusals.Gone so = absurd (cc)
is_fault (refusals.Moved begun reached) so = absurd (cc)
is_fault refusals.JournalFull so = absurd (cc)
is_fault StoreFault so = refl

-- a reply with a fault of the store comes of a fault of the store
pub rose : (before now : ℕ) (result : Result Reply AskFault) (reply : Reply) → reply ≡ told_reply result → IfOk result (λ reply. is_ok_reply reply ≡ true) → (IsErrOf result (Refused StoreFault) → Rose before now) → is_store_fault reply ≡ true → Rose before now
rose before now (Ok given) reply tells ok cause fault = absurd (cc (ok_no_fault given ok, ap is_store_fault tells))
rose before now (Err (Refused why)) reply tells ok cause fault = cause (ap (λ (why : Refusal). Err (Refused why)) (is_fault why (sym (ap is_store_fault tells) ∙ fault)))
rose before now (Err NoMemory) reply tells ok cause fault = absurd (cc)

pub faults_told : (is_fault : Bool) (before now : ℕ) (journal longer : List Entry) (caller : CallerId) (seq : ℕ) (call : Call) (reply : Reply) →
    is_store_fault reply ≡ is_fault → longer ≡ journal ++ entry_of caller seq call reply ∷ [] → fault_count journal ≤ before → before ≤ now → (is_store_fault reply ≡ true → Rose before now) → length longer < 2 ^ 64 →
    fault_count longer ≤ now
faults_told true before now journal longer caller seq call reply is grows counted rises cause fits =
    let rose : min (before + 1) (2 ^ 64 - 1) ≤ now = cause is in
    let one_more : fault_count longer ≤ fault_count journal + 1 = subst (λ (entries : List Entry). fault_count entries ≤ fault_count journal + 1) (sym grows) (fault_count-more journal (entry_of caller seq call reply)) in
    let within : fault_count longer ≤ length longer = count_by-le-length (λ entry. is_faulted entry.kind) longer in
    omega arith
faults_told false before now journal longer caller seq call reply is grows counted rises cause fits =
    let same : fault_count longer ≡ fault_count journal =
    ap fault_count grows ∙ fault_count-accepted journal (entry_of caller seq call reply) (ap (λ b. is_faulted (if b then Faulted else Accepted)) is) in
    omega arith

pub slice_get-seam : {A : Type 0} (xs : List A) (y : A) → slice_get (xs ++ y ∷ []) (length xs) ≡ Some y
slice_get-seam [] y = refl
slice_get-seam (x ∷ xs) y = slice_get-seam xs y

-- a call with its entry behind the others
-- a call that left an entry
pub entered_not_full : (call : Call) (reply : Reply) → leaves_entry call reply ≡ true → is_journal_full reply ≡ false
entered_not_full call (replies.Made id) left = refl
entered_not_full call replies.Done left = refl
entered_not_full call (replies.SnapMade id) left = refl
entered_not_full call (replies.Bytes bytes at) left = refl
entered_not_full call (replies.Stat id is_dir mode stamp size) left = refl
entered_not_full call (replies.Page items at) left = refl
entered_not_full call (replies.Snaps dir list) left = refl
entered_not_full call (replies.Dirs list) left = refl
entered_not_full call (replies.Report lines at) left = refl
entered_not_full call (replies.Refused why) left = store_not_full (origin_of (replies.Refused why)) (fault_number why ∙ sym (refused_leaves call why) ∙ left)
entered_not_full call replies.NoMemory left = refl

pub legal_entered : (tells : Bool) (most : ℕ) (journal longer : List Entry) (caller : CallerId) (seq : ℕ) (call : Call) (told : Answered) →
    longer ≡ journal ++ entry_of caller seq call told.reply ∷ [] → told.position ≡ length journal → told.back ≡ None → leaves_entry call told.reply ≡ true →
    (is_plain_reply told.reply ≡ true → claimed tells told.reply ≡ claimed tells (answer (plain_after journal) call)) →
    IsLegalCall tells most longer caller seq call told
legal_entered tells most journal longer caller seq call told grows at_end none leaves right =
    let entry = entry_of caller seq call told.reply in
    let front : take told.position longer ≡ journal = ap (λ n. take n longer) at_end ∙ ap (take (length journal)) grows ∙ take-append_seam journal (entry ∷ []) in
    record {
      within = omega (arith, length-append journal (entry ∷ []), ap length grows, at_end);
      answered = λ plain. right plain ∙ ap (λ (entries : List Entry). claimed tells (answer (plain_after entries) call)) (sym front);
      entered = λ _. ap (λ n. slice_get longer n) at_end ∙ ap (λ (entries : List Entry). slice_get entries (length journal)) grows ∙ slice_get-seam journal entry;
      kept = λ _. none;
      handed_back = λ no. absurd (cc);
      full = λ is. absurd (cc (entered_not_full call told.reply leaves, is));
    }

-- a call that is handed back
pub legal_back : (tells : Bool) (most : ℕ) (journal : List Entry) (caller : CallerId) (seq : ℕ) (call : Call) (told : Answered) →
    told.position ≡ length journal → told.back ≡ Some call → leaves_entry call told.reply ≡ false → (is_journal_full told.reply ≡ true → IsFullAt most journal call told.position) →
    (is_plain_reply told.reply ≡ true → claimed tells told.reply ≡ claimed tells (answer (plain_after journal) call)) →
    IsLegalCall tells most journal caller seq call told
legal_back tells most journal caller seq call told at_end back leaves full right =
    let front : take told.position journal ≡ journal = ap (λ n. take n journal) at_end ∙ take-length journal in
    record {
      within = omega (arith, at_end);
      answered = λ plain. right plain ∙ ap (λ (entries : List Entry). claimed tells (answer (plain_after entries) call)) (sym front);
      entered = λ left. absurd (cc);
      kept = λ left. absurd (cc);
      handed_back = λ no. back;
      full = full;
    }
