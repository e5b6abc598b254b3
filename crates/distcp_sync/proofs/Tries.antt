-- Calls of a plan that are tried one after the other.
use Rattle.std.proofs.Common.{◌≡◌, true, false, Option, Some, None, Ok, Err, Result, List, [], ◌∷◌, ◌++◌, map, refl, ap, sym, ◌∙◌, subst, append-nil, append_assoc}
use Rattle.std.specs.Option.{option_to_list}
use Rattle.std.specs.Result.{IsErrAnd}
use Rattle.std.specs.List.{filter_map, cons_option, AllByRecursion}
use Rattle.std.proofs.lemmas.List.{map-append}
use Rattle.std.proofs.lemmas.List.Elements.{filter_map-append}
use Rattle.hs_types.specs.declared.ids.CallerId.{CallerId}
use Rattle.hs_types.specs.declared.ids.Side.TheVariants.{Target}
use Rattle.hs_types.specs.declared.call.Call.{Call}
use Rattle.hs_types.specs.declared.reply.Answered.{Answered}
use Rattle.hs_plain.specs.Answer.{is_ok_reply}
use Rattle.hs_plain.specs.Legal.{Said}
use Rattle.page_join.specs.Links.{Known, said_by}
use Rattle.page_join.proofs.Chains.{made_then}
use Rattle.copy_workers.specs.declared.copied.Made.{Made}
use Rattle.copy_workers.specs.declared.copied.Look.{Look}
use Rattle.copy_workers.specs.Calls.{made_by, look_at, IsWrite}
use Rattle.copy_workers.proofs.Calling.{made_caller}
use Rattle.distcp_sync.specs.declared.answer.SyncAnswer.{SyncAnswer}
use Rattle.distcp_sync.specs.declared.answer.SyncAnswer.TheVariants as answers
use Rattle.distcp_sync.specs.Told.{answer_at, OrNoMemory}
use Rattle.distcp_sync.specs.inside.Trace.{AreDone, StopsAt, by_reply, by_memory, AreTried, all, some}
use Rattle.distcp_sync.specs.inside.Tried.{IsTried, IsNoted, IsDoneUpTo}

-- ---- calls that were done

abbrev IsWell : Said → Type 0
IsWell said = is_ok_reply said.told.reply ≡ true

all_then : (P : Said → Type 0) (front back : List Said) → AllByRecursion P front → AllByRecursion P back → AllByRecursion P (front ++ back)
all_then P [] back before behind = behind
all_then P (said ∷ front) back before behind = (before.0, all_then P front back before.1 behind)

named_one : (f : Said → Option Made) (said : Said) → filter_map f (said ∷ []) ≡ option_to_list (f said)
named_one f said = by (f said)
  where
    by : (o : Option Made) → cons_option o [] ≡ option_to_list o
    by None = refl
    by (Some made) = refl

done_none : (old : Known) → AreDone old old [] []
done_none old = record { said = []; written = refl; calls_are = refl; ok = tt; named = refl }

done_then : (old now new : Known) (first second : List Call) (before more : List Made) → AreDone old now first before → AreDone now new second more → AreDone old new (first ++ second) (before ++ more)
done_then old now new first second before more a b = record {
  said = a.said ++ b.said;
  written = made_then old now new a.said b.said a.written b.written;
  calls_are =
      map-append (λ (said : Said). said.call) a.said b.said
      ∙ ap (λ (l : List Call). l ++ map (λ (said : Said). said.call) b.said) a.calls_are
      ∙ ap (λ (l : List Call). first ++ l) b.calls_are;
  ok = all_then IsWell a.said b.said a.ok b.ok;
  named =
      ap (λ (l : List Made). l ++ more) a.named
      ∙ ap (λ (l : List Made). filter_map (made_by old.caller) a.said ++ l) (b.named ∙ ap (λ (caller : CallerId). filter_map (made_by caller) b.said) (made_caller old now a.said a.written))
      ∙ sym (filter_map-append (made_by old.caller) a.said b.said);
}

-- ---- calls that were tried

-- what was made before stands before what was made up to the end
stops_behind : (old new : Known) (call : Call) (first before made : List Made) (looks : List Look) (answer : SyncAnswer) → StopsAt old new call before made looks answer → StopsAt old new call (first ++ before) (first ++ made) looks answer
stops_behind old new call first before made looks answer (by_reply look ended bad told) =
    subst (λ (l : List Made). StopsAt old new call (first ++ before) l (look ∷ []) answer) (append_assoc first before (option_to_list (made_by old.caller (said_by new call look.reply)))) (by_reply look answer bad told)
stops_behind old new call first before made looks answer (by_memory same) = by_memory same

tried_then : (old now new : Known) (first second : List Call) (before made : List Made) (looks : List Look) (result : Result (Unit {0}) SyncAnswer) → AreDone old now first before → AreTried now new second made looks result →
    AreTried old new (first ++ second) (before ++ made) looks result
tried_then old now new first second before made looks result done (all more behind) = all (before ++ more) (done_then old now new first second before more done behind)
tried_then old now new first second before made looks result done (some front rest call then more last seen answer planned behind stops) =
    some (first ++ front) rest call then (before ++ more) (before ++ last) seen answer (ap (λ (l : List Call). first ++ l) planned ∙ sym (append_assoc first front (call ∷ rest)))
    (done_then old now then first front before more done behind) (stops_behind then new call before more last seen answer stops)

-- where some calls ended the work, further ones were not tried
tried_ended : (old new : Known) (first second : List Call) (made : List Made) (looks : List Look) (answer : SyncAnswer) → AreTried old new first made looks (Err answer) → AreTried old new (first ++ second) made looks (Err answer)
tried_ended old new first second made looks answer (some front rest call now before last seen ended planned done stops) =
    some front (rest ++ second) call now before last seen ended (ap (λ (l : List Call). l ++ second) planned ∙ append_assoc front (call ∷ rest) second) done stops

-- ---- one call

one_ok : (old new : Known) (call : Call) (before after : List Made) (told : Answered) → is_ok_reply told.reply ≡ true → IsWrite old new call before after told → AreDone old new (call ∷ []) (option_to_list (made_by old.caller (said_by new call told)))
one_ok old new call before after told ok write = record {
  said = said_by new call told ∷ [];
  written = (new, write.called, refl, refl);
  calls_are = refl;
  ok = (ok, tt);
  named = sym (named_one (made_by old.caller) (said_by new call told));
}

-- a call that was done
makes : (old new : Known) (call : Call) (before after : List Made) (looked : List Look) (told : Answered) → is_ok_reply told.reply ≡ true → IsWrite old new call before after told → IsTried old new (call ∷ []) before after looked looked (Ok tt)
makes old new call before after looked told ok write = record {
  added = option_to_list (made_by old.caller (said_by new call told));
  later = [];
  made = write.named;
  looks_are = sym (append-nil looked);
  tried = all (option_to_list (made_by old.caller (said_by new call told))) (one_ok old new call before after told ok write);
}

-- a call whose reply isn't an Ok reply
fails : (old new : Known) (call : Call) (before after : List Made) (looked looks : List Look) (told : Answered) (answer : SyncAnswer) → is_ok_reply told.reply ≡ false →
    IsWrite old new call before after told → looks ≡ looked ++ look_at Target old.caller told ∷ [] → OrNoMemory (answer_at (look_at Target old.caller told)) answer → IsTried old new (call ∷ []) before after looked looks (Err answer)
fails old new call before after looked looks told answer bad write put ends = record {
  added = option_to_list (made_by old.caller (said_by new call told));
  later = look_at Target old.caller told ∷ [];
  made = write.named;
  looks_are = put;
  tried = some [] [] call old [] (option_to_list (made_by old.caller (said_by new call told))) (look_at Target old.caller told ∷ []) answer refl (done_none old)
      (by_reply (look_at Target old.caller told) answer (record { looked = record { look_is = refl; called = write.called }; bad = bad }) ends);
}

-- a call with its reply
pub noted : (old new : Known) (call : Call) (before after : List Made) (looked looks : List Look) (caller : CallerId) (told : Answered) (result : Result (Unit {0}) SyncAnswer) → caller ≡ old.caller →
    IsWrite old new call before after told → IsNoted caller told looked looks result → IsTried old new (call ∷ []) before after looked looks result
noted old new call before after looked looks caller told (Ok done) is write note =
    subst (λ (l : List Look). IsTried old new (call ∷ []) before after looked l (Ok tt)) (sym note.1) (makes old new call before after looked told note.0 write)
noted old new call before after looked looks caller told (Err answer) is write note =
    let at : IsNoted old.caller told looked looks (Err answer) = subst (λ (c : CallerId). IsNoted c told looked looks (Err answer)) is note in
    fails old new call before after looked looks told answer at.0 write at.1 at.2

-- a call for which memory ran out
pub wants : (old new : Known) (call : Call) (before after : List Made) (looked : List Look) → new ≡ old → after ≡ before → IsTried old new (call ∷ []) before after looked looked (Err answers.NoMemory)
wants old new call before after looked same none = record {
  added = [];
  later = [];
  made = none ∙ sym (append-nil before);
  looks_are = sym (append-nil looked);
  tried = some [] [] call old [] [] [] answers.NoMemory refl (done_none old) (by_memory same);
}

-- ---- one after the other

pub none_tried : (old : Known) (made : List Made) (looks : List Look) → IsTried old old [] made made looks looks (Ok tt)
none_tried old made looks = record { added = []; later = []; made = sym (append-nil made); looks_are = sym (append-nil looks); tried = all [] (done_none old) }

-- some calls were done, and then others were tried
pub tries_then : (old now new : Known) (first second : List Call) (made0 made1 made2 : List Made) (looks0 looks1 looks2 : List Look) (result : Result (Unit {0}) SyncAnswer) →
    IsTried old now first made0 made1 looks0 looks1 (Ok tt) → IsTried now new second made1 made2 looks1 looks2 result → IsTried old new (first ++ second) made0 made2 looks0 looks2 result
tries_then old now new first second made0 made1 made2 looks0 looks1 looks2 result a b = by a.added a.later a.made a.looks_are a.tried
  where
    by : (added : List Made) (later : List Look) → made1 ≡ made0 ++ added → looks1 ≡ looks0 ++ later → AreTried old now first added later (Ok tt) → IsTried old new (first ++ second) made0 made2 looks0 looks2 result
    by added later named put (all more done) = record {
      added = more ++ b.added;
      later = b.later;
      made = b.made ∙ ap (λ (l : List Made). l ++ b.added) named ∙ append_assoc made0 more b.added;
      looks_are = b.looks_are ∙ ap (λ (l : List Look). l ++ b.later) (put ∙ append-nil looks0);
      tried = tried_then old now new first second more b.added b.later result done b.tried;
    }

-- where some calls ended the work, so they do with others behind them
pub tries_ended : (old new : Known) (first second : List Call) (before after : List Made) (looked looks : List Look) (answer : SyncAnswer) → IsTried old new first before after looked looks (Err answer) → IsTried old new (first ++ second) before after looked looks (Err answer)
tries_ended old new first second before after looked looks answer a = record {
  added = a.added;
  later = a.later;
  made = a.made;
  looks_are = a.looks_are;
  tried = tried_ended old new first second a.added a.later answer a.tried;
}

-- ---- a list of calls

pub upto_none : (old : Known) (whole : List Call) (made : List Made) (looks : List Look) → IsDoneUpTo old old whole whole made made looks looks
upto_none old whole made looks = record { front = []; all = refl; tried = none_tried old made looks }

pub upto_more : (old now new : Known) (whole step left : List Call) (made0 made1 made2 : List Made) (looks0 looks1 looks2 : List Look) →
    IsDoneUpTo old now whole (step ++ left) made0 made1 looks0 looks1 → IsTried now new step made1 made2 looks1 looks2 (Ok tt) → IsDoneUpTo old new whole left made0 made2 looks0 looks2
upto_more old now new whole step left made0 made1 made2 looks0 looks1 looks2 up one = record {
  front = up.front ++ step;
  all = up.all ∙ sym (append_assoc up.front step left);
  tried = tries_then old now new up.front step made0 made1 made2 looks0 looks1 looks2 (Ok tt) up.tried one;
}

pub upto_ended : (old now new : Known) (whole step left : List Call) (made0 made1 made2 : List Made) (looks0 looks1 looks2 : List Look) (answer : SyncAnswer) →
    IsDoneUpTo old now whole (step ++ left) made0 made1 looks0 looks1 → IsTried now new step made1 made2 looks1 looks2 (Err answer) → IsTried old new whole made0 made2 looks0 looks2 (Err answer)
upto_ended old now new whole step left made0 made1 made2 looks0 looks1 looks2 answer up one =
    subst (λ (calls : List Call). IsTried old new calls made0 made2 looks0 looks2 (Err answer)) (sym up.all)
    (tries_then old now new up.front (step ++ left) made0 made1 made2 looks0 looks1 looks2 (Err answer) up.tried (tries_ended now new step left made1 made2 looks1 looks2 answer one))

-- ---- a result of an error that came from another

pub ends_with : (result : Result (Unit {0}) SyncAnswer) (answer : SyncAnswer) (P : Result (Unit {0}) SyncAnswer → Type 0) → IsErrAnd result (λ given. given ≡ answer) → P (Err answer) → P result
ends_with (Ok done) answer P gives p = absurd gives
ends_with (Err given) answer P gives p = subst (λ (a : SyncAnswer). P (Err a)) (sym gives) p
