-- The entries that a sync names and the read that its source's store failed stand in the journals, as calls of its links left them.
use Rattle.std.proofs.Common.{◌≡◌, ℕ, ◌+◌, Bool, true, false, cond, ◌&&◌, ◌||◌, Option, Some, None, List, [], ◌∷◌, slice_get, refl, ap, sym, subst}
use Rattle.std.specs.List.{filter_map, cons_option, AllByRecursion}
use mathlib.Core.List.{IsPrefix}
use Rattle.hs_types.specs.declared.ids.CallerId.{CallerId}
use Rattle.hs_types.specs.declared.ids.SnapId.{SnapId}
use Rattle.hs_types.specs.declared.call.Call.TheVariants as calls
use Rattle.hs_types.specs.declared.call.Place.{Place}
use Rattle.hs_types.specs.declared.call.Place.TheVariants as places
use Rattle.hs_types.specs.declared.call.ReadCursor.{ReadCursor}
use Rattle.hs_types.specs.declared.journal.Entry.{Entry}
use Rattle.hs_types.specs.declared.journal.EntryKind.TheVariants.{Accepted, Faulted}
use Rattle.hs_plain.specs.declared.plan.CopyJob.{CopyJob}
use Rattle.hs_plain.specs.declared.plan.Plan.{Plan}
use Rattle.hs_plain.specs.Answer.{is_modifying, is_ok_reply, is_store_fault}
use Rattle.hs_plain.specs.Legal.{Said, IsLegalCall, leaves_entry, entry_of, place_left}
use Rattle.hs_plain.specs.Plan.{text_below}
use Rattle.page_join.specs.Links.{Known, IsCall}
use Rattle.page_join.specs.Made.{AreMade}
use Rattle.page_join.proofs.Chains.{prefix_self, prefix_trans, legal_still}
use Rattle.copy_workers.specs.Calls.{made_by}
use Rattle.copy_workers.specs.Copying.{IsCopy}
use Rattle.copy_workers.specs.CopyLaws.{ReadsAt, AreCallsOf, CallsOfCopy}
use Rattle.copy_workers.specs.declared.copied.Made.{Made}
use Rattle.copy_workers.specs.declared.copied.Look.{Look}
use Rattle.copy_workers.specs.declared.copied.Copied.{Copied}
use Rattle.distcp_sync.specs.declared.answer.SyncAnswer.{SyncAnswer}
use Rattle.distcp_sync.specs.declared.start.SyncStart.{SyncStart}
use Rattle.distcp_sync.specs.Steps.{ended_copy}
use Rattle.distcp_sync.specs.Calls.{IsMadeIn, IsFailedRead, faulted_at}
use Rattle.distcp_sync.specs.inside.Trace.{AreCopied, IsCarried}
use Rattle.distcp_sync.proofs.Heard.{made_goes}
use Rattle.distcp_sync.proofs.CopiesWrote.{ended_left, copies_ended}

-- the first of some calls is legal in a journal that goes on from what they saw
first_legal : (old new : Known) (said : Said) (more : List Said) (journal : List Entry) → AreMade old new (said ∷ more) → IsPrefix new.seen journal → IsLegalCall old.tells old.limit journal old.caller said.seq said.call said.told
first_legal old new said more journal made goes =
    let now : Known = made.0 in
    let called : IsCall old now said.call said.told = made.1 in
    legal_still old.tells old.limit now.seen journal old.caller said (prefix_trans now.seen new.seen journal (made_goes now new more made.3).grown goes)
    (subst (λ (n : ℕ). IsLegalCall old.tells old.limit now.seen old.caller n said.call said.told) made.2 called.legal)

-- ---- entries that are named

-- one call's entry in front of those of further calls
made_in_by : (journal : List Entry) (c : CallerId) (said : Said) (more : List Made) (left : Bool) → (left ≡ true → slice_get journal said.told.position ≡ Some (entry_of c said.seq said.call said.told.reply)) → AllByRecursion (IsMadeIn journal c) more →
    AllByRecursion (IsMadeIn journal c) (cons_option (cond left (Some (record { caller = c; seq = said.seq; position = said.told.position })) None) more)
made_in_by journal c said more true there rest = (record { entry = entry_of c said.seq said.call said.told.reply; there = there refl; of_caller = refl; caller_is = refl; seq_is = refl }, rest)
made_in_by journal c said more false there rest = rest

-- the entries that calls left stand where they are named
pub made_in : (old new : Known) (calls : List Said) (journal : List Entry) → AreMade old new calls → IsPrefix new.seen journal → AllByRecursion (IsMadeIn journal old.caller) (filter_map (made_by old.caller) calls)
made_in old new [] journal made goes = tt
made_in old new (said ∷ more) journal made goes =
    made_in_by journal old.caller said (filter_map (made_by old.caller) more) (leaves_entry said.call said.told.reply) (first_legal old new said more journal made goes).entered
    (subst (λ (c : CallerId). AllByRecursion (IsMadeIn journal c) (filter_map (made_by c) more)) (ap (λ (k : Known). k.caller) made.1.same) (made_in made.0 new more journal made.3 goes))

-- ---- a read that its store failed

-- a read leaves an entry for a fault alone
fault_alone : (fault modifies ok : Bool) → modifies ≡ false → (fault || (modifies && ok)) ≡ true → fault ≡ true
fault_alone true modifies ok m left = refl
fault_alone false true ok m left = absurd (cc)
fault_alone false false ok m left = left

-- one read's entry in front of those of further reads
failed_by : (journal : List Entry) (c : CallerId) (said : Said) (at : ReadCursor) (len : ℕ) (more : List ℕ) (left : Bool) → said.call ≡ calls.ReadNext at len → (left ≡ true → is_store_fault said.told.reply ≡ true) →
    (left ≡ true → slice_get journal said.told.position ≡ Some (entry_of c said.seq said.call said.told.reply)) → AllByRecursion (IsFailedRead journal c) more → AllByRecursion (IsFailedRead journal c) (cons_option (cond left (Some said.told.position) None) more)
failed_by journal c said at len more true is fault there rest = (
  record {
    entry = entry_of c said.seq said.call said.told.reply;
    there = there refl;
    of_caller = refl;
    kind_is = ap (λ b. cond b Faulted Accepted) (fault refl);
    cursor = at;
    len = len;
    call_is = is;
  },
  rest,
)
failed_by journal c said at len more false is fault there rest = rest

-- the entries that reads left are of faults
reads_failed : (place : Place) (old new : Known) (reads : List Said) (journal : List Entry) → AreMade old new reads → IsPrefix new.seen journal → AllByRecursion (ReadsAt place) reads → AllByRecursion (IsFailedRead journal old.caller) (filter_map place_left reads)
reads_failed place old new [] journal made goes asked = tt
reads_failed place old new (said ∷ more) journal made goes asked =
    failed_by journal old.caller said asked.0.0 65536 (filter_map place_left more) (leaves_entry said.call said.told.reply) asked.0.1
    (fault_alone (is_store_fault said.told.reply) (is_modifying said.call) (is_ok_reply said.told.reply) (ap is_modifying asked.0.1)) (first_legal old new said more journal made goes).entered
    (subst (λ (c : CallerId). AllByRecursion (IsFailedRead journal c) (filter_map place_left more)) (ap (λ (k : Known). k.caller) made.1.same) (reads_failed place made.0 new more journal made.3 goes asked.1))

-- a copy's reads
copy_failed : CallsOfCopy → (number : ℕ) (job : CopyJob) (snap : SnapId) (root : List ℕ) (source source_then target target_then : Known) (copied : Copied) (journal : List Entry) → IsPrefix source_then.seen journal →
    IsCopy number job snap root source source_then target target_then copied → AllByRecursion (IsFailedRead journal source.caller) (faulted_at copied.ended)
copy_failed told number job snap root s s2 t t2 copied journal goes copy =
    let found = told number job snap root s s2 t t2 copied copy in
    let of : AreCallsOf (text_below root job.to) (places.Frozen job.id snap) s s2 t t2 copied.made copied.ended found.0 found.1 = found.2 in
    subst (AllByRecursion (IsFailedRead journal s.caller)) (ended_left (text_below root job.to) (places.Frozen job.id snap) s.caller t.caller found.0 found.1 copied.ended of.asked of.end)
    (reads_failed (places.Frozen job.id snap) s s2 found.0 journal of.read goes of.asked)

-- a copy keeps the caller at the source
copy_caller : CallsOfCopy → (number : ℕ) (job : CopyJob) (snap : SnapId) (root : List ℕ) (source source_then target target_then : Known) (copied : Copied) → IsCopy number job snap root source source_then target target_then copied →
    source_then.caller ≡ source.caller
copy_caller told number job snap root s s2 t t2 copied copy =
    let found = told number job snap root s s2 t t2 copied copy in
    let of : AreCallsOf (text_below root job.to) (places.Frozen job.id snap) s s2 t t2 copied.made copied.ended found.0 found.1 = found.2 in
    (made_goes s s2 found.0 of.read).caller

-- the fault that ended copies stands in the source's journal
copies_failed : CallsOfCopy → (snap : SnapId) (root : List ℕ) (number : ℕ) (jobs : List CopyJob) (source source_then target target_then : Known) (copies : List Copied) (ended : Option Look) (journal : List Entry) → IsPrefix source_then.seen journal →
    AreCopied snap root number jobs source source_then target target_then copies ended → AllByRecursion (IsFailedRead journal source.caller) (faulted_at ended)
copies_failed told snap root number jobs s s2 t t2 copies ended journal goes (AreCopied.all n source target) = tt
copies_failed told snap root number jobs s s2 t t2 copies ended journal goes (AreCopied.ends n job more a b c d copied look copy ends) =
    subst (λ (o : Option Look). AllByRecursion (IsFailedRead journal s.caller) (faulted_at o)) ends (copy_failed told number job snap root s s2 t t2 copied journal goes copy)
copies_failed told snap root number jobs s s2 t t2 copies ended journal goes (AreCopied.next n job more a now b c then_now d copied others late copy ends rest) =
    subst (λ (c : CallerId). AllByRecursion (IsFailedRead journal c) (faulted_at ended)) (copy_caller told number job snap root s now t then_now copied copy)
    (copies_failed told snap root (number + 1) more now s2 then_now t2 others ended journal goes rest)

-- the same, by what the report names
named_failed : CallsOfCopy → (start : SyncStart) (root : List ℕ) (jobs : List CopyJob) (source source_then target target_then : Known) (copies : List Copied) (ended : Option Look) →
    AreCopied start.to root 0 jobs source source_then target target_then copies ended → AllByRecursion (IsFailedRead source_then.seen source.caller) (faulted_at (ended_copy copies))
named_failed told start root jobs s s2 t t2 copies ended does =
    subst (λ (o : Option Look). AllByRecursion (IsFailedRead s2.seen s.caller) (faulted_at o)) (sym (copies_ended start.to root 0 jobs s s2 t t2 copies ended does))
    (copies_failed told start.to root 0 jobs s s2 t t2 copies ended s2.seen (prefix_self s2.seen) does)

-- a sync that made calls of its plan
pub carried_failed : CallsOfCopy → (start : SyncStart) (root : List ℕ) (plan : Plan) (source source_then target target_then : Known) (moves : List Made) (copies : List Copied) (looks : List Look) (answer : SyncAnswer) →
    IsCarried start root plan source source_then target target_then moves copies looks answer → AllByRecursion (IsFailedRead source_then.seen source.caller) (faulted_at (ended_copy copies))
carried_failed told start root plan s s2 t t2 moves copies looks answer (IsCarried.moving made looks_are answer_is tries same) = tt
carried_failed told start root plan s s2 t t2 moves copies looks answer (IsCarried.no_copies made did same) = tt
carried_failed told start root plan s s2 t t2 moves copies looks answer (IsCarried.copying now made copies_are look answer_is did does why) = named_failed told start root plan.copies s s2 now t2 copies (Some look) does
carried_failed told start root plan s s2 t t2 moves copies looks answer (IsCarried.deleting now then_now made last copies_are looks_are answer_is did does tries) = named_failed told start root plan.copies s s2 now then_now copies None does
carried_failed told start root plan s s2 t t2 moves copies looks answer (IsCarried.done now then_now made last copies_are did does deleted) = named_failed told start root plan.copies s s2 now then_now copies None does
