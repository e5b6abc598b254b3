-- Entries of calls that were done, as the first of planned calls.
use Rattle.std.proofs.Common.{◌≡◌, ℕ, ◌+◌, ◌≤◌, nat_le, Bool, true, false, cond, ◌&&◌, ◌||◌, Some, None, List, [], ◌∷◌, ◌++◌, length, refl, ap, sym, ◌∙◌, subst, arith}
use Rattle.std.specs.List.{filter_map, cons_option, AllByRecursion}
use Rattle.std.proofs.lemmas.Bool.Decides.{nat_tests}
use Rattle.hs_types.specs.declared.ids.CallerId.{CallerId}
use Rattle.hs_types.specs.declared.call.Call.{Call}
use Rattle.hs_types.specs.declared.call.Call.TheVariants as calls
use Rattle.hs_types.specs.declared.journal.Entry.{Entry}
use Rattle.hs_types.specs.declared.journal.EntryKind.TheVariants.{Accepted, Faulted}
use Rattle.hs_types.specs.declared.reply.Reply.{Reply}
use Rattle.hs_types.specs.declared.reply.Reply.TheVariants as replies
use Rattle.hs_plain.specs.Answer.{is_modifying, is_ok_reply, is_store_fault}
use Rattle.hs_plain.specs.Legal.{Said, leaves_entry, entry_of, entry_left, number_rises}
use Rattle.page_join.specs.Links.{Known}
use Rattle.page_join.specs.Made.{AreMade}
use Rattle.copy_workers.specs.declared.copied.Made.{Made}
use Rattle.copy_workers.specs.Calls.{made_by}
use Rattle.copy_workers.specs.CopyLaws.{IsDone, calls_of, claimed_call, claimed_calls}
use Rattle.distcp_sync.specs.Steps.{IsNext, AreFirst, AreFaulted, up_to_last}
use Rattle.distcp_sync.specs.Calls.{seqs_rise}
use Rattle.distcp_sync.proofs.Heard.{made_goes, front_length}

-- ---- one call

differs : true ≡ false → ⊥
differs e = cc

-- a reply that says that a call was done is no fault of the store
pub done_no_fault : (reply : Reply) → is_ok_reply reply ≡ true → is_store_fault reply ≡ false
done_no_fault (replies.Made id) e = refl
done_no_fault replies.Done e = refl
done_no_fault (replies.SnapMade id) e = refl
done_no_fault (replies.Bytes bytes next) e = refl
done_no_fault (replies.Stat id is_dir mode stamp size) e = refl
done_no_fault (replies.Page items next) e = refl
done_no_fault (replies.Snaps dir list) e = refl
done_no_fault (replies.Dirs list) e = refl
done_no_fault (replies.Report lines next) e = refl
done_no_fault (replies.Refused why) e = absurd (cc)
done_no_fault replies.NoMemory e = absurd (cc)

-- what is claimed of a call may change the state where the call may
modifies_claimed : (tells : Bool) (call : Call) → is_modifying (claimed_call tells call) ≡ is_modifying call
modifies_claimed tells (calls.Mkdir path) = refl
modifies_claimed tells (calls.Create path over) = refl
modifies_claimed tells (calls.Append path bytes) = refl
modifies_claimed tells (calls.Delete path recursive) = refl
modifies_claimed tells (calls.Rename old new) = refl
modifies_claimed tells (calls.SetMode path mode) = refl
modifies_claimed tells (calls.Allow path) = refl
modifies_claimed tells (calls.Disallow path) = refl
modifies_claimed tells (calls.Snap path name) = refl
modifies_claimed tells (calls.SnapDel path name) = refl
modifies_claimed tells (calls.SnapRen path old new) = refl
modifies_claimed tells (calls.Read path offset len) = refl
modifies_claimed tells (calls.ReadNext cursor len) = refl
modifies_claimed tells (calls.Stat path) = refl
modifies_claimed tells (calls.List path size) = refl
modifies_claimed tells (calls.ListNext cursor size) = refl
modifies_claimed tells (calls.Snaps path) = refl
modifies_claimed tells calls.Dirs = refl
modifies_claimed tells (calls.Report path from to size) = refl
modifies_claimed tells (calls.ReportNext cursor size) = refl

abbrev pub Modifies : Call → Type 0
Modifies call = is_modifying call ≡ true

modifies_alike : (tells : Bool) (a b : Call) → claimed_call tells a ≡ claimed_call tells b → Modifies b → Modifies a
modifies_alike tells a b same modifies = sym (modifies_claimed tells a) ∙ (ap is_modifying same ∙ (modifies_claimed tells b ∙ modifies))

-- a change that was done leaves an entry
left_by : (fault modifies ok : Bool) → modifies ≡ true → ok ≡ true → (fault || (modifies && ok)) ≡ true
left_by true modifies ok m o = refl
left_by false true true m o = refl
left_by false true false m o = o
left_by false false ok m o = m

pub leaves_done : (call : Call) (reply : Reply) → Modifies call → is_ok_reply reply ≡ true → leaves_entry call reply ≡ true
leaves_done call reply modifies ok = left_by (is_store_fault reply) (is_modifying call) (is_ok_reply reply) modifies ok

-- ---- calls that were done are the first of planned ones

head_of : (x y : Call) (xs ys : List Call) → x ∷ xs ≡ y ∷ ys → x ≡ y
head_of x y xs ys same = cc

tail_of : (x y : Call) (xs ys : List Call) → x ∷ xs ≡ y ∷ ys → xs ≡ ys
tail_of x y xs ys same = cc

-- their entries have the first of the planned calls, and those are left
pub record AreTaken (tells : Bool) (planned left : List Call) (entries : List Entry) : Type 0 where
  pub rest : List Call
  pub rest_is : claimed_calls tells rest ≡ left
  pub first : AreFirst tells planned entries rest

-- one entry in front
take_one : (tells : Bool) (next : Call) (more left : List Call) (entry : Entry) (entries : List Entry) (leaves : Bool) → leaves ≡ true → entry.kind ≡ Accepted → claimed_call tells entry.call ≡ claimed_call tells next →
    AreTaken tells more left entries → AreTaken tells (next ∷ more) left (cons_option (cond leaves (Some entry) None) entries)
take_one tells next more left entry entries true e kind same taken = record { rest = taken.rest; rest_is = taken.rest_is; first = (next, more, refl, kind, same, taken.first) }
take_one tells next more left entry entries false e kind same taken = absurd (differs (sym e))

pub first_of : (tells : Bool) (c : CallerId) (done : List Said) (planned left : List Call) → AllByRecursion IsDone done → AllByRecursion Modifies planned →
    claimed_calls tells (calls_of done) ++ left ≡ claimed_calls tells planned → AreTaken tells planned left (filter_map (entry_left c) done)
first_of tells c [] planned left well modify all = record { rest = planned; rest_is = sym all; first = refl }
first_of tells c (said ∷ done) [] left well modify all = absurd (cc)
first_of tells c (said ∷ done) (next ∷ more) left well modify all =
    let front : List Call = claimed_calls tells (calls_of done) ++ left in
    let same : claimed_call tells said.call ≡ claimed_call tells next = head_of (claimed_call tells said.call) (claimed_call tells next) front (claimed_calls tells more) all in
    take_one tells next more left (entry_of c said.seq said.call said.told.reply) (filter_map (entry_left c) done) (leaves_entry said.call said.told.reply)
    (leaves_done said.call said.told.reply (modifies_alike tells said.call next same modify.0) well.0)
    (ap (λ b. cond b Faulted Accepted) (done_no_fault said.told.reply well.0)) same
    (first_of tells c done more left well.1 modify.1 (tail_of (claimed_call tells said.call) (claimed_call tells next) front (claimed_calls tells more) all))

-- what is claimed next is the next call
pub next_of : (tells : Bool) (rest : List Call) (call : Call) (more : List Call) → claimed_calls tells rest ≡ claimed_call tells call ∷ more → IsNext tells rest call
next_of tells [] call more same = absurd (cc)
next_of tells (next ∷ rest) call more same = sym (head_of (claimed_call tells next) (claimed_call tells call) (claimed_calls tells rest) more same)

-- ---- a call that was not done

-- it leaves the entry of a fault, or none
undone_left : (tells : Bool) (rest : List Call) (c : CallerId) (said : Said) (fault modifies ok : Bool) → is_store_fault said.told.reply ≡ fault → ok ≡ false → IsNext tells rest said.call →
    AreFaulted tells rest (cons_option (cond (fault || (modifies && ok)) (Some (entry_of c said.seq said.call said.told.reply)) None) [])
undone_left tells rest c said true modifies ok fault undone next = (ap (λ b. cond b Faulted Accepted) fault, next)
undone_left tells rest c said false true true fault undone next = absurd (differs undone)
undone_left tells rest c said false true false fault undone next = tt
undone_left tells rest c said false false ok fault undone next = tt

pub faulted_by_last : (tells : Bool) (rest : List Call) (c : CallerId) (said : Said) → is_ok_reply said.told.reply ≡ false → IsNext tells rest said.call → AreFaulted tells rest (filter_map (entry_left c) (said ∷ []))
faulted_by_last tells rest c said undone next = undone_left tells rest c said (is_store_fault said.told.reply) (is_modifying said.call) (is_ok_reply said.told.reply) refl undone next

-- ---- numbers

le_yes : (a b : ℕ) → a ≤ b → nat_le a b ≡ true
le_yes a b h = grind (arith, nat_tests)

rises_from : (a b c : ℕ) → a ≤ b → number_rises b c ≡ true → number_rises a c ≡ true
rises_from a b c before rises = grind (arith, nat_tests)

counted_up : (old new : ℕ) → number_rises old new ≡ true → old ≤ new
counted_up old new rises = grind (arith, nat_tests)

both_yes : (a b : Bool) → a ≡ true → b ≡ true → (a && b) ≡ true
both_yes true b p q = q
both_yes false b p q = p

-- one call more in front
rise_one : (low last : ℕ) (c : CallerId) (said : Said) (more : List Made) (leaves : Bool) → number_rises low said.seq ≡ true → seqs_rise said.seq last more ≡ true → seqs_rise low last more ≡ true →
    seqs_rise low last (cons_option (cond leaves (Some (record { caller = c; seq = said.seq; position = said.told.position })) None) more) ≡ true
rise_one low last c said more true here behind before = both_yes (number_rises low said.seq) (seqs_rise said.seq last more) here behind
rise_one low last c said more false here behind before = before

pub made_rise : (c : CallerId) (low : ℕ) (old new : Known) (calls : List Said) → low ≤ old.calls → AreMade old new calls → seqs_rise low new.calls (filter_map (made_by c) calls) ≡ true
made_rise c low old new [] from made = le_yes low new.calls (subst (λ (k : Known). low ≤ k.calls) (sym made) from)
made_rise c low old new (said ∷ more) from made =
    let now : Known = made.0 in
    let rises : number_rises old.calls now.calls ≡ true = made.1.rises in
    let seq : now.calls ≡ said.seq = made.2 in
    rise_one low new.calls c said (filter_map (made_by c) more) (leaves_entry said.call said.told.reply)
    (rises_from low old.calls said.seq from (subst (λ n. number_rises old.calls n ≡ true) seq rises))
    (made_rise c said.seq now new more (omega (arith, seq)) made.3)
    (made_rise c low now new more (omega (arith, from, counted_up old.calls now.calls rises)) made.3)

-- ---- places

-- the last of these stands below a length
up_to_more : (n : ℕ) (made : Made) (more : List Made) → made.position + 1 ≤ n → up_to_last more ≤ n → up_to_last (made ∷ more) ≤ n
up_to_more n made [] here rest = here
up_to_more n made (other ∷ more) here rest = rest

up_to_one : (n : ℕ) (c : CallerId) (said : Said) (more : List Made) (leaves : Bool) → said.told.position + cond leaves 1 0 ≤ n → up_to_last more ≤ n →
    up_to_last (cons_option (cond leaves (Some (record { caller = c; seq = said.seq; position = said.told.position })) None) more) ≤ n
up_to_one n c said more true here rest = up_to_more n (record { caller = c; seq = said.seq; position = said.told.position }) more here rest
up_to_one n c said more false here rest = rest

pub up_to_made : (c : CallerId) (old new : Known) (calls : List Said) → AreMade old new calls → up_to_last (filter_map (made_by c) calls) ≤ length new.seen
up_to_made c old new [] made = omega arith
up_to_made c old new (said ∷ more) made =
    let now : Known = made.0 in
    up_to_one (length new.seen) c said (filter_map (made_by c) more) (leaves_entry said.call said.told.reply)
    (omega (arith, made.1.reach, front_length now.seen new.seen (made_goes now new more made.3).grown))
    (up_to_made c now new more made.3)
