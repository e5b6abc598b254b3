-- A call that changes nothing and uses no store is answered legally at the end of a journal.
use Rattle.std.proofs.Common.{◌≡◌, ◌≢◌, ℕ, Bool, true, false, not, ◌&&◌, ◌||◌, cond, Some, None, List, ◌++◌, length, take, refl, ap, sym, ◌∙◌, append-nil, arith}
use Rattle.std.specs.Option.{option_to_list}
use Rattle.std.proofs.lemmas.List.{take_all}
use Rattle.hs_types.specs.declared.call.Call.{Call}
use Rattle.hs_types.specs.declared.reply.Reply.{Reply}
use Rattle.hs_types.specs.declared.reply.Reply.TheVariants.{Made, Done, SnapMade, Bytes, Stat, Page, Snaps, Dirs, Report, Refused, NoMemory}
use Rattle.hs_types.specs.declared.journal.Entry.{Entry}
use Rattle.hs_types.specs.declared.reply.Answered.{Answered}
use Rattle.hs_plain.specs.Answer.{answer, claimed, is_modifying, uses_store, is_shared, is_ok_reply, is_store_fault, is_plain_reply, is_journal_full, origin_of}
use Rattle.hs_plain.proofs.Answers.{answers_own}
use Rattle.hs_plain.specs.Replay.{plain_after}
use Rattle.hs_plain.specs.Legal.{IsLegalCall, leaves_entry, entry_of, entry_left}
use Rattle.hs_types.specs.declared.ids.CallerId.{CallerId}
use Rattle.namenode_lock.proofs.Faultless.{answer_faultless, machine_not_full}

left_none : (fault modifying stored ok : Bool) → fault ≡ false → not (modifying || stored) ≡ true → (fault || (modifying && ok)) ≡ false
left_none true modifying stored ok e shared = absurd (cc)
left_none false true stored ok e shared = absurd (cc)
left_none false false stored ok e shared = refl

-- the answer, or want of memory, is no fault of the store
not_faulted : (reply right : Reply) → is_store_fault right ≡ false → (reply ≢ NoMemory → reply ≡ right) → is_store_fault reply ≡ false
not_faulted (Made id) right sure is = refl
not_faulted Done right sure is = refl
not_faulted (Bytes bytes next) right sure is = refl
not_faulted (Stat id is_dir mode stamp size) right sure is = refl
not_faulted (Page items next) right sure is = refl
not_faulted (SnapMade id) right sure is = refl
not_faulted (Snaps dir list) right sure is = refl
not_faulted (Dirs list) right sure is = refl
not_faulted (Report lines next) right sure is = refl
not_faulted (Refused why) right sure is = ap is_store_fault (is (λ e. absurd (cc))) ∙ sure
not_faulted NoMemory right sure is = refl

-- the reply of a call beside others leaves no entry
pub asked_none : (journal : List Entry) (call : Call) (reply : Reply) → is_shared call ≡ true → (reply ≢ NoMemory → reply ≡ answer (plain_after journal) call) → leaves_entry call reply ≡ false
asked_none journal call reply shared right =
    let sure : is_store_fault reply ≡ false = not_faulted reply (answer (plain_after journal) call) (answer_faultless (plain_after journal) call) right in
    left_none (is_store_fault reply) (is_modifying call) (uses_store call) (is_ok_reply reply) sure shared

-- and a journal with what it leaves is as before
pub none_grows : (journal : List Entry) (caller : CallerId) (seq : ℕ) (call : Call) (told : Answered) → leaves_entry call told.reply ≡ false → journal ≡ journal ++ option_to_list (entry_left caller (record { seq = seq; call = call; told = told }))
none_grows journal caller seq call told none =
    sym (ap (λ b. journal ++ option_to_list (cond b (Some (entry_of caller seq call told.reply)) None)) none ∙ append-nil journal)

-- nor does it say that the journal is full
not_full : (reply right : Reply) → is_plain_reply right ≡ true → (reply ≢ NoMemory → reply ≡ right) → is_journal_full reply ≡ false
not_full (Made id) right sure is = refl
not_full Done right sure is = refl
not_full (SnapMade id) right sure is = refl
not_full (Bytes bytes next) right sure is = refl
not_full (Stat id is_dir mode stamp size) right sure is = refl
not_full (Page items next) right sure is = refl
not_full (Snaps dir list) right sure is = refl
not_full (Dirs list) right sure is = refl
not_full (Report lines next) right sure is = refl
not_full (Refused why) right sure is = machine_not_full (origin_of (Refused why)) (ap is_plain_reply (is (λ e. absurd (cc))) ∙ sure)
not_full NoMemory right sure is = refl

pub asked_legal : (tells : Bool) (caller : CallerId) (most : ℕ) (journal : List Entry) (call : Call) (told : Answered) (seq : ℕ) → is_shared call ≡ true →
    told.position ≡ length journal → told.back ≡ Some call → (told.reply ≢ NoMemory → told.reply ≡ answer (plain_after journal) call) →
    IsLegalCall tells most journal caller seq call told
asked_legal tells caller most journal call told seq shared place back right =
    let none : leaves_entry call told.reply ≡ false = asked_none journal call told.reply shared right in
    let all : take told.position journal ≡ journal = take_all told.position journal (omega (arith, place)) in
    record {
      within = omega (arith, place);
      answered = λ plain. ap (claimed tells) (right (λ want. absurd (true_not_false (sym plain ∙ ap is_plain_reply want))) ∙ ap (λ (entries : List Entry). answer (plain_after entries) call) (sym all));
      entered = λ left. absurd (true_not_false (sym left ∙ none));
      kept = λ left. absurd (true_not_false (sym left ∙ none));
      handed_back = λ left. back;
      full = λ is. absurd (true_not_false (sym is ∙ not_full told.reply (answer (plain_after journal) call) (answers_own (plain_after journal) call) right));
    }
  where
    true_not_false : true ≡ false → ⊥
    true_not_false e = cc
