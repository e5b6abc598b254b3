-- A run from its parts: how it begins, its plan, and what it did with the plan.
use Rattle.std.proofs.Common.{◌≡◌, ℕ, List, [], ◌∷◌, ◌++◌, Option, Some, None, Result, Ok, Err, refl, ap, sym, ◌∙◌, subst, append-nil}
use Rattle.std.specs.Result.{IsErrAnd}
use Rattle.hs_types.specs.declared.call.Call.{Call}
use Rattle.hs_plain.specs.declared.plan.Plan.{Plan}
use Rattle.hs_plain.specs.Plan.{move_calls, last_call}
use Rattle.page_join.specs.Links.{Known}
use Rattle.copy_workers.specs.declared.copied.Made.{Made}
use Rattle.copy_workers.specs.declared.copied.Look.{Look}
use Rattle.copy_workers.specs.declared.copied.Copied.{Copied}
use Rattle.distcp_sync.specs.declared.answer.SyncAnswer.{SyncAnswer}
use Rattle.distcp_sync.specs.declared.answer.SyncAnswer.TheVariants as answers
use Rattle.distcp_sync.specs.declared.fetching.Fetched.{Fetched}
use Rattle.distcp_sync.specs.declared.report.SyncJob.{SyncJob}
use Rattle.distcp_sync.specs.declared.start.SyncStart.{SyncStart}
use Rattle.distcp_sync.specs.inside.Ran.{answer_of, report_of, HasPlan, IsPlanOf, HasCarried}
use Rattle.distcp_sync.specs.inside.Tried.{IsTried, EndsBy, AreCopiedWith}
use Rattle.distcp_sync.specs.inside.Trace.{IsBegun, IsFetched, IsFetchedWith, AreDone, AreTried, AreCopied, IsCarried, IsRun}

-- ---- a result of an error that came from another

pub err_from : {A : Type 0} (P : Result A SyncAnswer → Type 0) (result : Result A SyncAnswer) (answer : SyncAnswer) → IsErrAnd result (λ given. given ≡ answer) → P (Err answer) → P result
err_from P (Ok done) answer gives p = absurd gives
err_from P (Err given) answer gives p = subst (λ (a : SyncAnswer). P (Err a)) (sym gives) p

err_ok : (answer : SyncAnswer) (result : Result (Unit {0}) SyncAnswer) → result ≡ Err answer → result ≡ Ok tt → ⊥
err_ok answer result is ok = cc

-- ---- the plan

-- where all was fetched, no reply ended the fetching
none_later : (start : SyncStart) (page : ℕ) (source source_then target target_then : Known) (later : List Look) (fetched : Fetched) → IsFetched start page source source_then target target_then later (Ok fetched) → later ≡ []
none_later start page s s2 t t2 later what (IsFetched.fetched fetched rs rt are) = refl

module _ (start : SyncStart) (job : SyncJob) (source source_then target target_then : Known) (before after : List Look) where
  pub plan_unfetched : (answer : SyncAnswer) → IsFetchedWith start job.page source source_then target target_then before after (Err answer) → HasPlan start job source source_then target target_then before after (Err answer)
  plan_unfetched answer got = HasPlan.unfetched got.later answer got.looks got.fetched

  module _ (fetched : Fetched) (got : IsFetchedWith start job.page source source_then target target_then before after (Ok fetched)) where
    none : got.later ≡ []
    none = none_later start job.page source source_then target target_then got.later fetched got.fetched

    looks_stay : after ≡ before
    looks_stay = got.looks ∙ ap (λ (l : List Look). before ++ l) none ∙ append-nil before

    fetched_all : IsFetched start job.page source source_then target target_then [] (Ok fetched)
    fetched_all = subst (λ (l : List Look). IsFetched start job.page source source_then target target_then l (Ok fetched)) none got.fetched

    pub plan_fetched : (result : Result Plan SyncAnswer) → IsPlanOf job.target_root fetched result → HasPlan start job source source_then target target_then before after result
    plan_fetched (Ok plan) is = HasPlan.planned fetched plan looks_stay fetched_all is
    plan_fetched (Err answer) (fault, told, paths) = HasPlan.unplanned fetched fault answer looks_stay fetched_all paths told

-- ---- a run

module _ (job : SyncJob) (source source_then target target_then : Known) (moves : List Made) (copies : List Copied) where
  pub run_unbegun : (looks : List Look) (answer : SyncAnswer) → moves ≡ [] → copies ≡ [] → IsBegun job source source_then target target_then looks (Err answer) → IsRun job source source_then target target_then (report_of (Err answer) moves copies looks)
  run_unbegun looks answer no_moves no_copies begun = IsRun.unbegun begun no_moves no_copies

  module _ (start : SyncStart) (source_now target_now : Known) (before : List Look) (begun : IsBegun job source source_now target target_now before (Ok start)) where
    pub run_unplanned : (after : List Look) (answer : SyncAnswer) → moves ≡ [] → copies ≡ [] → HasPlan start job source_now source_then target_now target_then before after (Err answer) →
        IsRun job source source_then target target_then (report_of (Err answer) moves copies after)
    run_unplanned after answer no_moves no_copies (HasPlan.unfetched later told looks got) = IsRun.unfetched start source_now target_now before later begun got looks no_moves no_copies
    run_unplanned after answer no_moves no_copies (HasPlan.unplanned fetched fault told same got paths is) =
        IsRun.unplanned start source_now target_now fetched fault (subst (λ (l : List Look). IsBegun job source source_now target target_now l (Ok start)) (sym same) begun) got paths is no_moves no_copies

    pub run_carried : (after last : List Look) (plan : Plan) (source_read target_read : Known) (result : Result (Unit {0}) SyncAnswer) → HasPlan start job source_now source_read target_now target_read before after (Ok plan) →
        HasCarried start job.target_root plan source_read source_then target_read target_then moves copies after last result → IsRun job source source_then target target_then (report_of result moves copies last)
    run_carried after last plan source_read target_read result (HasPlan.planned fetched made same got is) does =
        IsRun.carried start source_now source_read target_now target_read fetched plan before does.later begun got is does.carried (does.looks_is ∙ ap (λ (l : List Look). l ++ does.later) same)

-- a run that found no memory for its looks
pub run_wanting : (job : SyncJob) (source target : Known) (moves : List Made) (copies : List Copied) (looks : List Look) → moves ≡ [] → copies ≡ [] → looks ≡ [] → IsRun job source source target target (report_of (Err answers.NoMemory) moves copies looks)
run_wanting job source target moves copies looks no_moves no_copies no_looks =
    run_unbegun job source source target target moves copies looks answers.NoMemory no_moves no_copies
    (subst (λ (l : List Look). IsBegun job source source target target l (Err answers.NoMemory)) (sym no_looks) (IsBegun.no_first refl refl))

-- ---- the calls of a plan

pub none_still : (before after : List Copied) → after ≡ before → before ≡ [] → after ≡ []
none_still before after same none = same ∙ none

-- calls that were all done
pub record HasDone (old new : Known) (planned : List Call) (before after : List Made) (looked looks : List Look) : Type 0 where
  pub made : List Made
  pub done : AreDone old new planned made
  pub after_is : after ≡ before ++ made
  pub looks_stay : looks ≡ looked

tried_all : (old new : Known) (planned : List Call) (before after added : List Made) (looked looks later : List Look) → after ≡ before ++ added → looks ≡ looked ++ later → AreTried old new planned added later (Ok tt) → HasDone old new planned before after looked looks
tried_all old new planned before after added looked looks later after_is looks_are (AreTried.all made done) = record { made = made; done = done; after_is = after_is; looks_stay = looks_are ∙ append-nil looked }

pub all_done : (old new : Known) (planned : List Call) (before after : List Made) (looked looks : List Look) → IsTried old new planned before after looked looks (Ok tt) → HasDone old new planned before after looked looks
all_done old new planned before after looked looks tried = tried_all old new planned before after tried.added looked looks tried.later tried.made tried.looks_are tried.tried

module _ (start : SyncStart) (root : List ℕ) (plan : Plan) where
  abbrev HasDoneMoves : Known → Known → List Made → List Made → List Look → List Look → Type 0
  HasDoneMoves old new before after looked looks = HasDone old new (move_calls root plan) before after looked looks

  abbrev Carries : Known → Known → Known → Known → List Made → List Copied → List Look → List Look → Result (Unit {0}) SyncAnswer → Type 0
  Carries source source_then target target_then moves copies before after result = HasCarried start root plan source source_then target target_then moves copies before after result

  -- a move ended it
  pub carried_moving : (source target target_then : Known) (before moves : List Made) (copies : List Copied) (looked looks : List Look) (answer : SyncAnswer) → before ≡ [] → copies ≡ [] →
      IsTried target target_then (move_calls root plan) before moves looked looks (Err answer) → Carries source source target target_then moves copies looked looks (Err answer)
  carried_moving source target target_then before moves copies looked looks answer none no_copies tried = record {
    later = tried.later;
    looks_is = tried.looks_are;
    carried =
        subst (λ (cs : List Copied). IsCarried start root plan source source target target_then moves cs tried.later answer) (sym no_copies)
        (IsCarried.moving moves tried.later answer (subst (λ (ms : List Made). AreTried target target_then (move_calls root plan) ms tried.later (Err answer)) (sym (tried.made ∙ ap (λ (l : List Made). l ++ tried.added) none)) tried.tried) refl);
  }

  module _ (source target target_now : Known) (before moves : List Made) (looked looks : List Look) (none : before ≡ []) (moved : HasDoneMoves target target_now before moves looked looks) where
    moves_are : moves ≡ moved.made
    moves_are = moved.after_is ∙ ap (λ (l : List Made). l ++ moved.made) none

    moves_done : AreDone target target_now (move_calls root plan) moves
    moves_done = subst (λ (ms : List Made). AreDone target target_now (move_calls root plan) ms) (sym moves_are) moved.done

    -- no memory for the copies
    pub carried_no_copies : (copies : List Copied) → copies ≡ [] → Carries source source target target_now moves copies looked looks (Err answers.NoMemory)
    carried_no_copies copies no_copies = record {
      later = [];
      looks_is = moved.looks_stay ∙ sym (append-nil looked);
      carried = subst (λ (cs : List Copied). IsCarried start root plan source source target target_now moves cs [] answers.NoMemory) (sym no_copies) (IsCarried.no_copies moves moves_done refl);
    }

    -- copies that ended early
    copying : (source_then target_then : Known) (first more copies : List Copied) (ended : Option Look) (answer : SyncAnswer) → first ≡ [] → copies ≡ first ++ more → AreCopied start.to root 0 plan.copies source source_then target_now target_then more ended → EndsBy ended (Err answer) →
        IsCarried start root plan source source_then target target_then moves copies [] answer
    copying source_then target_then first more copies None answer no_first copies_are copied ends = absurd (err_ok answer (Err answer) refl ends)
    copying source_then target_then first more copies (Some look) answer no_first copies_are copied ends =
        IsCarried.copying target_now moves copies look answer moves_done (subst (λ (cs : List Copied). AreCopied start.to root 0 plan.copies source source_then target_now target_then cs (Some look)) (sym (copies_are ∙ ap (λ (l : List Copied). l ++ more) no_first)) copied) ends

    pub carried_copying : (source_then target_then : Known) (first copies : List Copied) (answer : SyncAnswer) → first ≡ [] → AreCopiedWith start.to root 0 plan.copies source source_then target_now target_then first copies (Err answer) →
        Carries source source_then target target_then moves copies looked looks (Err answer)
    carried_copying source_then target_then first copies answer no_first copied = record {
      later = [];
      looks_is = moved.looks_stay ∙ sym (append-nil looked);
      carried = copying source_then target_then first copied.more copies copied.ended answer no_first copied.copies_are copied.copied copied.ends;
    }

    -- whole copies
    whole_copies : (source_then target_then : Known) (more : List Copied) (ended : Option Look) → AreCopied start.to root 0 plan.copies source source_then target_now target_then more ended → EndsBy ended (Ok tt) → AreCopied start.to root 0 plan.copies source source_then target_now target_then more None
    whole_copies source_then target_then more None copied ends = copied
    whole_copies source_then target_then more (Some look) copied ends = absurd ends

    module _ (source_then target_then : Known) (first copies : List Copied) (no_first : first ≡ []) (copied : AreCopiedWith start.to root 0 plan.copies source source_then target_now target_then first copies (Ok tt)) where
      copies_whole : AreCopied start.to root 0 plan.copies source source_then target_now target_then copies None
      copies_whole =
          subst (λ (cs : List Copied). AreCopied start.to root 0 plan.copies source source_then target_now target_then cs None) (sym (copied.copies_are ∙ ap (λ (l : List Copied). l ++ copied.more) no_first))
          (whole_copies source_then target_then copied.more copied.ended copied.copied copied.ends)

      -- the last call ended it, or was done
      ending : (target_last : Known) (added : List Made) (later : List Look) (result : Result (Unit {0}) SyncAnswer) → AreTried target_then target_last (last_call root plan ∷ []) added later result →
          IsCarried start root plan source source_then target target_last (moves ++ added) copies later (answer_of result)
      ending target_last added later (Ok done) (AreTried.all made last) = IsCarried.done target_now target_then moves made copies moves_done copies_whole last
      ending target_last added later (Err answer) tried = IsCarried.deleting target_now target_then moves added copies later answer moves_done copies_whole tried

      pub carried_ending : (target_last : Known) (after : List Made) (last : List Look) (result : Result (Unit {0}) SyncAnswer) → IsTried target_then target_last (last_call root plan ∷ []) moves after looks last result →
          Carries source source_then target target_last after copies looked last result
      carried_ending target_last after last result tried = record {
        later = tried.later;
        looks_is = tried.looks_are ∙ ap (λ (l : List Look). l ++ tried.later) moved.looks_stay;
        carried = subst (λ (ms : List Made). IsCarried start root plan source source_then target target_last ms copies tried.later (answer_of result)) (sym tried.made) (ending target_last tried.added tried.later result tried.tried);
      }

-- ---- the report

pub run_reported : (job : SyncJob) (source source_then target target_then : Known) (result : Result (Unit {0}) SyncAnswer) (moves told_moves : List Made) (copies told_copies : List Copied) (looks told_looks : List Look) (answer : SyncAnswer) →
    answer ≡ answer_of result → told_moves ≡ moves → told_copies ≡ copies → told_looks ≡ looks → IsRun job source source_then target target_then (report_of result moves copies looks) →
    IsRun job source source_then target target_then (record { answer = answer; moves = told_moves; copies = told_copies; looks = told_looks })
run_reported job s s2 t t2 result moves told_moves copies told_copies looks told_looks answer told ms cs ls ran =
    subst (λ (a : SyncAnswer). IsRun job s s2 t t2 (record { answer = a; moves = told_moves; copies = told_copies; looks = told_looks })) (sym told)
    (subst (λ (l : List Made). IsRun job s s2 t t2 (record { answer = answer_of result; moves = l; copies = told_copies; looks = told_looks })) (sym ms)
    (subst (λ (l : List Copied). IsRun job s s2 t t2 (record { answer = answer_of result; moves = moves; copies = l; looks = told_looks })) (sym cs)
    (subst (λ (l : List Look). IsRun job s s2 t t2 (record { answer = answer_of result; moves = moves; copies = copies; looks = l })) (sym ls) ran)))
