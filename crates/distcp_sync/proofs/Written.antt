-- What a sync wrote at its target, as calls of its plan, and how it ended.
use Rattle.std.proofs.Common.{◌≡◌, ◌⊎◌, inl, inr, ℕ, ◌+◌, Bool, true, false, cond, Option, Some, None, Err, List, [], ◌∷◌, ◌++◌, length, map, slice_get, refl, ap, sym, ◌∙◌, subst, append-nil, append_assoc}
use Rattle.std.specs.Prelude.{IfSome}
use Rattle.std.specs.Option.{option_to_list}
use Rattle.std.specs.List.{filter_map, cons_option, AllByRecursion}
use Rattle.hs_types.specs.declared.ids.CallerId.{CallerId}
use Rattle.hs_types.specs.declared.ids.Side.TheVariants.{Target}
use Rattle.hs_types.specs.Names.{Names}
use Rattle.hs_types.specs.declared.call.Call.{Call}
use Rattle.hs_plain.specs.declared.plan.CopyJob.{CopyJob}
use Rattle.hs_plain.specs.declared.plan.Plan.{Plan}
use Rattle.hs_plain.specs.declared.plan.Put.{Put}
use Rattle.hs_plain.specs.declared.plan.Put.TheVariants.{Back, NewDir}
use Rattle.hs_plain.specs.Answer.{is_modifying, uses_store, is_ok_reply}
use Rattle.hs_plain.specs.Legal.{Said}
use Rattle.hs_plain.specs.Plan.{move_calls, out_calls, put_call, last_call}
use Rattle.plan_laws.proofs.Lists.{each-append, each-split}
use Rattle.page_join.specs.Links.{Known, IsLawful, said_by}
use Rattle.copy_workers.specs.Calls.{made_by}
use Rattle.copy_workers.specs.CopyLaws.{CallsOfCopy, CopyOfFrozenIsFront, claimed_calls}
use Rattle.copy_workers.specs.declared.copied.Made.{Made}
use Rattle.copy_workers.specs.declared.copied.Look.{Look}
use Rattle.copy_workers.specs.declared.copied.Copied.{Copied}
use Rattle.distcp_sync.specs.declared.answer.SyncAnswer.{SyncAnswer}
use Rattle.distcp_sync.specs.declared.answer.SyncAnswer.TheVariants as answers
use Rattle.distcp_sync.specs.declared.start.SyncStart.{SyncStart}
use Rattle.distcp_sync.specs.Told.{answer_at, OrNoMemory}
use Rattle.distcp_sync.specs.Steps.{ended_copy, are_numbered}
use Rattle.distcp_sync.specs.Calls.{faulted_at}
use Rattle.distcp_sync.specs.inside.Trace.{IsLookedBad, AreDone, StopsAt, AreTried, AreCopied, IsCarried}
use Rattle.distcp_sync.proofs.Heard.{Goes, goes_self, goes_then, made_goes}
use Rattle.distcp_sync.proofs.Did.{Did, did_same}
use Rattle.distcp_sync.proofs.Firsts.{Modifies, leaves_done}
use Rattle.distcp_sync.proofs.Wrote.{WroteAll, Wrote, all_then, some_then, all_some, some_more}
use Rattle.distcp_sync.proofs.CopiesWrote.{IsLastLooked, IsCut, copies_did, copies_numbered, copies_ended}
use Rattle.distcp_sync.proofs.CopyChain.{all_made, AreFiles, jobs_calls, last_later, cut_later, AreCut, chain_all, chain_cut}

-- ---- the moves

abbrev pub UsesNoStore : Call → Type 0
UsesNoStore call = uses_store call ≡ false

outs_no_store : (root : List ℕ) (plan : Plan) (index : ℕ) (paths : List Names) → AllByRecursion UsesNoStore (out_calls root plan index paths)
outs_no_store root plan index [] = tt
outs_no_store root plan index (path ∷ paths) = (refl, outs_no_store root plan (index + 1) paths)

puts_no_store : (root : List ℕ) (plan : Plan) (puts : List Put) → AllByRecursion UsesNoStore (map (put_call root plan) puts)
puts_no_store root plan [] = tt
puts_no_store root plan (Back index to ∷ puts) = (refl, puts_no_store root plan puts)
puts_no_store root plan (NewDir to ∷ puts) = (refl, puts_no_store root plan puts)

moves_no_store : (root : List ℕ) (plan : Plan) → AllByRecursion UsesNoStore (move_calls root plan)
moves_no_store root plan = (refl, each-append UsesNoStore (out_calls root plan 0 plan.outs) (map (put_call root plan) plan.puts) (outs_no_store root plan 0 plan.outs) (puts_no_store root plan plan.puts))

-- ---- planned calls that were made

done_all : (If : Type 0) (tells : Bool) (old new : Known) (planned : List Call) (made : List Made) → AreDone old new planned made → WroteAll If tells planned old new made
done_all If tells old new planned made did = record { done = did.said; wrote = did.written; well = did.ok; named = did.named; wants = λ h. ap (claimed_calls tells) did.calls_are }

-- how planned calls that use no store ended before all were done, by the call that was not done, if one was
pub data IsStopped (old new : Known) : List Look → SyncAnswer → Option Said → Type 0 where
  by_reply : (look : Look) (answer : SyncAnswer) (last : Said) → look.reply ≡ last.told → IsLastLooked Target old new last.call look → UsesNoStore last.call → is_ok_reply look.reply.reply ≡ false → OrNoMemory (answer_at look) answer →
      IsStopped old new (look ∷ []) answer (Some last)
  by_memory : IsStopped old new [] answers.NoMemory None

-- some of planned calls were made
pub record AreStopped (If : Type 0) (tells : Bool) (planned : List Call) (old new : Known) (made : List Made) (looks : List Look) (answer : SyncAnswer) : Type 0 where
  pub failed : Option Said
  pub wrote : Wrote If tells planned old new made failed
  pub bad_last : IfSome failed (λ last. is_ok_reply last.told.reply ≡ false)
  pub stopped : IsStopped old new looks answer failed

named_one : (o : Option Made) → option_to_list o ≡ cons_option o []
named_one None = refl
named_one (Some made) = refl

-- one call that was made and not done
one_undone : (If : Type 0) (tells : Bool) (old new : Known) (call : Call) (look : Look) → IsLookedBad Target old new call look →
    Wrote If tells (call ∷ []) old new (option_to_list (made_by old.caller (said_by new call look.reply))) (Some (said_by new call look.reply))
one_undone If tells old new call look bad = record {
  done = [];
  wrote = (new, bad.looked.called, refl, refl);
  well = tt;
  named = named_one (made_by old.caller (said_by new call look.reply));
  wants = λ h. record { rest = []; all = refl };
}

middle : (front rest : List Call) (call : Call) → AllByRecursion UsesNoStore (front ++ call ∷ rest) → UsesNoStore call
middle front rest call all = (each-split UsesNoStore front (call ∷ rest) all).1.0

stop_at : (If : Type 0) (tells : Bool) (front rest : List Call) (call : Call) (old now new : Known) (before made : List Made) (looks : List Look) (answer : SyncAnswer) → UsesNoStore call → WroteAll If tells front old now before → Goes old now →
    StopsAt now new call before made looks answer → AreStopped If tells (front ++ call ∷ rest) old new made looks answer
stop_at If tells front rest call old now new before made looks answer no_store wrote goes (StopsAt.by_reply look answer_is bad told) =
    let last : Said = said_by new call look.reply in
    let more : List Made = option_to_list (made_by now.caller last) in
    record {
      failed = Some last;
      wrote =
          subst (λ (l : List Call). Wrote If tells l old new (before ++ more) (Some last)) (append_assoc front (call ∷ []) rest)
          (some_more If tells (front ++ call ∷ []) rest old new (before ++ more) (Some last)
          (some_then If tells front (call ∷ []) old now new before more (Some last) wrote (one_undone If tells now new call look bad)));
      bad_last = bad.bad;
      stopped = IsStopped.by_reply look answer last refl (record { now = now; before = goes; looked = bad.looked }) no_store bad.bad told;
    }
stop_at If tells front rest call old now new before made looks answer no_store wrote goes (StopsAt.by_memory same) =
    record {
      failed = None;
      wrote = subst (λ (k : Known). Wrote If tells (front ++ call ∷ rest) old k before None) (sym same) (all_some If tells front (call ∷ rest) old now before wrote);
      bad_last = tt;
      stopped = IsStopped.by_memory;
    }

tried : (If : Type 0) (tells : Bool) (planned : List Call) (old new : Known) (made : List Made) (looks : List Look) (answer : SyncAnswer) → AllByRecursion UsesNoStore planned → AreTried old new planned made looks (Err answer) →
    AreStopped If tells planned old new made looks answer
tried If tells planned old new made looks answer no_store (AreTried.some front rest call now before made_is looks_are answer_is all done stops) =
    subst (λ (l : List Call). AreStopped If tells l old new made looks answer) (sym all)
    (stop_at If tells front rest call old now new before made looks answer (middle front rest call (subst (AllByRecursion UsesNoStore) all no_store)) (done_all If tells old now front before done) (made_goes old now done.said done.written) stops)

-- ---- the whole

-- how a sync ended before all calls of its plan were done, by what was read, and by the call at the target that was not done, if one was
pub data IsEnded (start : SyncStart) (jobs : List CopyJob) (source source_then target target_then : Known) (copies : List Copied) : List Look → SyncAnswer → Option Said → Type 0 where
  wanting : ended_copy copies ≡ None → IsEnded start jobs source source_then target target_then copies [] answers.NoMemory None
  by_reply : (look : Look) (answer : SyncAnswer) (last : Said) → ended_copy copies ≡ None → look.reply ≡ last.told → IsLastLooked Target target target_then last.call look → UsesNoStore last.call → is_ok_reply look.reply.reply ≡ false →
      OrNoMemory (answer_at look) answer → IsEnded start jobs source source_then target target_then copies (look ∷ []) answer (Some last)
  by_copy : (look : Look) (answer : SyncAnswer) (failed : Option Said) (index : ℕ) (job : CopyJob) → ended_copy copies ≡ Some look → slice_get jobs index ≡ Some job → length copies ≡ index + 1 →
      IsCut start.to job source source_then target target_then look failed → is_ok_reply look.reply.reply ≡ false → OrNoMemory (answer_at look) answer → IsEnded start jobs source source_then target target_then copies [] answer failed

-- the calls of a plan in which each copied file has these bytes
abbrev pub calls_with : List ℕ → Plan → (CopyJob → List ℕ) → List Call
calls_with root plan bytes = move_calls root plan ++ (jobs_calls root bytes plan.copies ++ last_call root plan ∷ [])

module _ (start : SyncStart) (root : List ℕ) (plan : Plan) (tells : Bool) (bytes : CopyJob → List ℕ) (first source source_then target target_then : Known) (moves : List Made) (copies : List Copied) (looks : List Look) (answer : SyncAnswer) where
  -- the first calls were made
  pub record AreSomeWritten : Type 0 where
    pub before : List Made
    pub last : List Made
    pub moves_are : moves ≡ before ++ last
    pub failed : Option Said
    pub wrote : Wrote (AreFiles start.to bytes first plan.copies) tells (calls_with root plan bytes) target target_then (before ++ (all_made copies ++ last)) failed
    pub bad_last : IfSome failed (λ said. is_ok_reply said.told.reply ≡ false)
    pub ended : IsEnded start plan.copies source source_then target target_then copies looks answer failed

  -- all were done
  pub record AreAllWritten : Type 0 where
    pub before : List Made
    pub deleted : Made
    pub moves_are : moves ≡ before ++ deleted ∷ []
    pub wrote : WroteAll (AreFiles start.to bytes first plan.copies) tells (calls_with root plan bytes) target target_then (before ++ (all_made copies ++ deleted ∷ []))
    pub none_ended : ended_copy copies ≡ None
    pub count : length copies ≡ length plan.copies
    pub no_looks : looks ≡ []
    pub is_done : answer ≡ answers.Done

-- one call that was done left one entry
record IsOne (made : List Made) : Type 0 where
  one : Made
  is : made ≡ one ∷ []

one_left : (c : CallerId) (said : Said) (leaves : Bool) → leaves ≡ true → IsOne (cons_option (cond leaves (Some (record { caller = c; seq = said.seq; position = said.told.position })) None) [])
one_left c said true e = record { one = record { caller = c; seq = said.seq; position = said.told.position }; is = refl }
one_left c said false e = absurd (cc)

one_made : (old new : Known) (call : Call) (made : List Made) → Modifies call → AreDone old new (call ∷ []) made → IsOne made
one_made old new call made modifies did = by did.said did.ok did.calls_are did.named
  where
    head_of : (x y : Call) (xs ys : List Call) → x ∷ xs ≡ y ∷ ys → x ≡ y
    head_of x y xs ys same = cc

    by : (said : List Said) → AllByRecursion (λ one. is_ok_reply one.told.reply ≡ true) said → map (λ (one : Said). one.call) said ≡ call ∷ [] → made ≡ filter_map (made_by old.caller) said → IsOne made
    by [] ok are named = absurd (cc)
    by (said ∷ []) ok are named =
        subst IsOne (sym named) (one_left old.caller said _ (leaves_done said.call said.told.reply (ap is_modifying (head_of said.call call [] [] are) ∙ modifies) ok.0))
    by (said ∷ other ∷ more) ok are named = absurd (cc)

module _ (told : CallsOfCopy) (is_front : CopyOfFrozenIsFront) (start : SyncStart) (root : List ℕ) (plan : Plan) (tells : Bool) (bytes : CopyJob → List ℕ) (first source source_then target target_then : Known) (tells_is : tells ≡ source.tells) (goes : Goes first source) where
  abbrev Files : Type 0
  Files = AreFiles start.to bytes first plan.copies

  abbrev moved : List Call
  moved = move_calls root plan

  abbrev copied : List Call
  copied = jobs_calls root bytes plan.copies

  abbrev deleting : List Call
  deleting = last_call root plan ∷ []

  abbrev Some-written : List Made → List Copied → List Look → SyncAnswer → Type 0
  Some-written moves copies looks answer = AreSomeWritten start root plan tells bytes first source source_then target target_then moves copies looks answer

  moved_by : (old new : Known) (made : List Made) → AreDone old new moved made → WroteAll Files tells moved old new made
  moved_by old new made did = done_all Files tells old new moved made did

  no_last : (made more : List Made) → made ++ more ≡ made ++ (more ++ [])
  no_last made more = ap (λ (l : List Made). made ++ l) (sym (append-nil more))

  -- among the moves
  at_move : (made : List Made) (looks : List Look) (answer : SyncAnswer) → AreTried target target_then moved made looks (Err answer) → source_then ≡ source → Some-written made [] looks answer
  at_move made looks answer tries same =
      let stopped : AreStopped Files tells moved target target_then made looks answer = tried Files tells moved target target_then made looks answer (moves_no_store root plan) tries in
      record {
        before = made;
        last = [];
        moves_are = sym (append-nil made);
        failed = stopped.failed;
        wrote =
            subst (λ (l : List Made). Wrote Files tells (calls_with root plan bytes) target target_then l stopped.failed) (sym (append-nil made))
            (some_more Files tells moved (copied ++ deleting) target target_then made stopped.failed stopped.wrote);
        bad_last = stopped.bad_last;
        ended = by looks answer stopped.failed stopped.stopped;
      }
    where
      by : (looks : List Look) (answer : SyncAnswer) (failed : Option Said) → IsStopped target target_then looks answer failed → IsEnded start plan.copies source source_then target target_then [] looks answer failed
      by looks answer failed (IsStopped.by_reply look answer_is last is looked no_store bad told) = IsEnded.by_reply look answer last refl is looked no_store bad told
      by looks answer failed IsStopped.by_memory = IsEnded.wanting refl

  -- behind them, for want of memory
  at_copies : (made : List Made) → AreDone target target_then moved made → source_then ≡ source → Some-written made [] [] answers.NoMemory
  at_copies made did same = record {
    before = made;
    last = [];
    moves_are = sym (append-nil made);
    failed = None;
    wrote =
        subst (λ (l : List Made). Wrote Files tells (calls_with root plan bytes) target target_then l None) (sym (append-nil made))
        (all_some Files tells moved (copied ++ deleting) target target_then made (moved_by target target_then made did));
    bad_last = tt;
    ended = IsEnded.wanting refl;
  }

  -- in a copy
  at_copy : (now : Known) (made : List Made) (copies : List Copied) (look : Look) (answer : SyncAnswer) → AreDone target now moved made → AreCopied start.to root 0 plan.copies source source_then now target_then copies (Some look) →
      OrNoMemory (answer_at look) answer → Some-written made copies [] answer
  at_copy now made copies look answer did does answer_is =
      let cut : AreCut tells start.to root bytes first plan.copies source source_then now target_then copies look = chain_cut told is_front tells start.to root bytes first 0 plan.copies source source_then now target_then copies (Some look) look refl tells_is goes does in
      record {
        before = made;
        last = [];
        moves_are = sym (append-nil made);
        failed = cut.failed;
        wrote =
            subst (λ (l : List Made). Wrote Files tells (calls_with root plan bytes) target target_then l cut.failed) (no_last made (all_made copies))
            (some_then Files tells moved (copied ++ deleting) target now target_then made (all_made copies) cut.failed (moved_by target now made did)
            (some_more Files tells copied deleting now target_then (all_made copies) cut.failed cut.wrote));
        bad_last = cut.bad_last;
        ended =
            IsEnded.by_copy look answer cut.failed cut.index cut.job (copies_ended start.to root 0 plan.copies source source_then now target_then copies (Some look) does) cut.job_is cut.count
            (cut_later start.to cut.job source source source_then target now target_then look cut.failed (goes_self source) (made_goes target now did.said did.written) cut.cut) cut.bad answer_is;
      }

  -- the moves and the copies were done
  all_copied : (now later : Known) (made : List Made) (copies : List Copied) → AreDone target now moved made → AreCopied start.to root 0 plan.copies source source_then now later copies None → WroteAll Files tells copied now later (all_made copies) × (length copies ≡ length plan.copies)
  all_copied now later made copies did does = chain_all told is_front tells start.to root bytes first 0 plan.copies source source_then now later copies None refl tells_is goes does

  -- at the last call
  at_last : (now later : Known) (made last : List Made) (copies : List Copied) (looks : List Look) (answer : SyncAnswer) → AreDone target now moved made → AreCopied start.to root 0 plan.copies source source_then now later copies None →
      AreTried later target_then deleting last looks (Err answer) → Some-written (made ++ last) copies looks answer
  at_last now later made last copies looks answer did does tries =
      let stopped : AreStopped Files tells deleting later target_then last looks answer = tried Files tells deleting later target_then last looks answer (refl, tt) tries in
      let copies_did = all_copied now later made copies did does in
      record {
        before = made;
        last = last;
        moves_are = refl;
        failed = stopped.failed;
        wrote =
            some_then Files tells moved (copied ++ deleting) target now target_then made (all_made copies ++ last) stopped.failed (moved_by target now made did)
            (some_then Files tells copied deleting now later target_then (all_made copies) last stopped.failed copies_did.0 stopped.wrote);
        bad_last = stopped.bad_last;
        ended =
            by (copies_ended start.to root 0 plan.copies source source_then now later copies None does)
            (goes_then target now later (made_goes target now did.said did.written) (made_goes now later copies_did.0.done copies_did.0.wrote)) looks answer stopped.failed stopped.stopped;
      }
    where
      by : ended_copy copies ≡ None → Goes target later → (looks : List Look) (answer : SyncAnswer) (failed : Option Said) → IsStopped later target_then looks answer failed → IsEnded start plan.copies source source_then target target_then copies looks answer failed
      by none before looks answer failed (IsStopped.by_reply look answer_is last is looked no_store bad told) =
          IsEnded.by_reply look answer last none is (last_later Target target later target_then last.call look before looked) no_store bad told
      by none before looks answer failed IsStopped.by_memory = IsEnded.wanting none

  -- all was done
  at_end : (now later : Known) (made last : List Made) (copies : List Copied) → AreDone target now moved made → AreCopied start.to root 0 plan.copies source source_then now later copies None → AreDone later target_then deleting last →
      AreAllWritten start root plan tells bytes first source source_then target target_then (made ++ last) copies [] answers.Done
  at_end now later made last copies did does deleted =
      let one : IsOne last = one_made later target_then (last_call root plan) last refl deleted in
      let copies_did = all_copied now later made copies did does in
      record {
        before = made;
        deleted = one.one;
        moves_are = ap (λ (l : List Made). made ++ l) one.is;
        wrote =
            subst (λ (l : List Made). WroteAll Files tells (calls_with root plan bytes) target target_then (made ++ (all_made copies ++ l))) one.is
            (all_then Files tells moved (copied ++ deleting) target now target_then made (all_made copies ++ last) (moved_by target now made did)
            (all_then Files tells copied deleting now later target_then (all_made copies) last copies_did.0 (done_all Files tells later target_then deleting last deleted)));
        none_ended = copies_ended start.to root 0 plan.copies source source_then now later copies None does;
        count = copies_did.1;
        no_looks = refl;
        is_done = refl;
      }

  -- what a sync wrote that made calls of its plan
  pub written : (moves : List Made) (copies : List Copied) (looks : List Look) (answer : SyncAnswer) → IsCarried start root plan source source_then target target_then moves copies looks answer →
      AreSomeWritten start root plan tells bytes first source source_then target target_then moves copies looks answer ⊎ AreAllWritten start root plan tells bytes first source source_then target target_then moves copies looks answer
  written moves copies looks answer (IsCarried.moving made looks_are answer_is tries same) = inl (at_move moves looks answer tries same)
  written moves copies looks answer (IsCarried.no_copies made did same) = inl (at_copies moves did same)
  written moves copies looks answer (IsCarried.copying now made copies_are look answer_is did does told) = inl (at_copy now moves copies look answer did does told)
  written moves copies looks answer (IsCarried.deleting now then_now made last copies_are looks_are answer_is did does tries) = inl (at_last now then_now made last copies looks answer did does tries)
  written moves copies looks answer (IsCarried.done now then_now made last copies_are did does deleted) = inr (at_end now then_now made last copies did does deleted)

-- ---- beside the writes

pub carried_numbered : (start : SyncStart) (root : List ℕ) (plan : Plan) (source source_then target target_then : Known) (moves : List Made) (copies : List Copied) (looks : List Look) (answer : SyncAnswer) →
    IsCarried start root plan source source_then target target_then moves copies looks answer → are_numbered 0 copies ≡ true
carried_numbered start root plan s s2 t t2 moves copies looks answer (IsCarried.moving made looks_are answer_is tries same) = refl
carried_numbered start root plan s s2 t t2 moves copies looks answer (IsCarried.no_copies made did same) = refl
carried_numbered start root plan s s2 t t2 moves copies looks answer (IsCarried.copying now made copies_are look answer_is did does told) = copies_numbered start.to root 0 plan.copies s s2 now t2 copies (Some look) does
carried_numbered start root plan s s2 t t2 moves copies looks answer (IsCarried.deleting now then_now made last copies_are looks_are answer_is did does tries) = copies_numbered start.to root 0 plan.copies s s2 now then_now copies None does
carried_numbered start root plan s s2 t t2 moves copies looks answer (IsCarried.done now then_now made last copies_are did does deleted) = copies_numbered start.to root 0 plan.copies s s2 now then_now copies None does

pub carried_did : CallsOfCopy → (start : SyncStart) (root : List ℕ) (plan : Plan) (source source_then target target_then : Known) (moves : List Made) (copies : List Copied) (looks : List Look) (answer : SyncAnswer) → IsLawful source →
    IsCarried start root plan source source_then target target_then moves copies looks answer → Did source source_then (faulted_at (ended_copy copies))
carried_did calls start root plan s s2 t t2 moves copies looks answer lawful (IsCarried.moving made looks_are answer_is tries same) = did_same s s2 lawful same
carried_did calls start root plan s s2 t t2 moves copies looks answer lawful (IsCarried.no_copies made did same) = did_same s s2 lawful same
carried_did calls start root plan s s2 t t2 moves copies looks answer lawful (IsCarried.copying now made copies_are look answer_is did does told) =
    subst (λ (o : Option Look). Did s s2 (faulted_at o)) (sym (copies_ended start.to root 0 plan.copies s s2 now t2 copies (Some look) does)) (copies_did calls start.to root 0 plan.copies s s2 now t2 copies (Some look) lawful does)
carried_did calls start root plan s s2 t t2 moves copies looks answer lawful (IsCarried.deleting now then_now made last copies_are looks_are answer_is did does tries) =
    subst (λ (o : Option Look). Did s s2 (faulted_at o)) (sym (copies_ended start.to root 0 plan.copies s s2 now then_now copies None does)) (copies_did calls start.to root 0 plan.copies s s2 now then_now copies None lawful does)
carried_did calls start root plan s s2 t t2 moves copies looks answer lawful (IsCarried.done now then_now made last copies_are did does deleted) =
    subst (λ (o : Option Look). Did s s2 (faulted_at o)) (sym (copies_ended start.to root 0 plan.copies s s2 now then_now copies None does)) (copies_did calls start.to root 0 plan.copies s s2 now then_now copies None lawful does)
