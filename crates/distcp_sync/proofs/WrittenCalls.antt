-- What a sync that made calls of its plan left at both sides.
use Rattle.std.proofs.Common.{◌≡◌, ◌⊎◌, inl, inr, ℕ, Bool, true, None, List, [], ◌∷◌, ◌++◌, map, refl, ap, sym, ◌∙◌, subst, append-nil}
use Rattle.std.specs.Option.{option_to_list}
use Rattle.std.specs.List.{filter_map, AllByRecursion}
use Rattle.hs_types.specs.declared.ids.CallerId.{CallerId}
use Rattle.hs_types.specs.declared.call.Call.{Call}
use Rattle.hs_plain.specs.declared.plan.Plan.{Plan}
use Rattle.hs_plain.specs.Legal.{Said, place_left}
use Rattle.page_join.specs.Links.{Known}
use Rattle.page_join.specs.Made.{AreMade}
use Rattle.page_join.proofs.Chains.{prefix_self}
use Rattle.copy_workers.specs.Calls.{made_by}
use Rattle.copy_workers.specs.CopyLaws.{CallsOfCopy, CopyOfFrozenIsFront, calls_of, claimed_calls}
use Rattle.copy_workers.specs.declared.copied.Made.{Made}
use Rattle.copy_workers.specs.declared.copied.Look.{Look}
use Rattle.distcp_sync.specs.declared.report.SyncReport.{SyncReport}
use Rattle.distcp_sync.specs.declared.start.SyncStart.{SyncStart}
use Rattle.distcp_sync.specs.Steps.{ended_copy}
use Rattle.distcp_sync.specs.Calls.{AreSyncCalls, AddPlaces, IsMadeIn, IsFailedRead, faulted_at, seqs_rise}
use Rattle.distcp_sync.specs.inside.Trace.{IsCarried}
use Rattle.distcp_sync.proofs.Heard.{goes_self}
use Rattle.distcp_sync.proofs.Places.{named_places}
use Rattle.distcp_sync.proofs.Did.{Did, did_then, has_gone}
use Rattle.distcp_sync.proofs.Begun.{DidBoth}
use Rattle.distcp_sync.proofs.Unmade.{did_made}
use Rattle.distcp_sync.proofs.Firsts.{made_rise}
use Rattle.distcp_sync.proofs.Wrote.{WroteAll, Wrote}
use Rattle.distcp_sync.proofs.CopyChain.{all_made}
use Rattle.distcp_sync.proofs.EnteredMade.{made_in, carried_failed}
use Rattle.distcp_sync.proofs.Written.{AreSomeWritten, AreAllWritten, written, carried_did}

-- all calls that were planned, as the first of them
pub record IsEvery (If : Type 0) (tells : Bool) (planned : List Call) (old new : Known) (made : List Made) : Type 0 where
  pub wrote : Wrote If tells planned old new made None
  pub none : (h : If) → (wrote.wants h).rest ≡ []

pub every : (If : Type 0) (tells : Bool) (planned : List Call) (old new : Known) (made : List Made) → WroteAll If tells planned old new made → IsEvery If tells planned old new made
every If tells planned old new made all =
    let same : all.done ≡ all.done ++ [] = sym (append-nil all.done) in
    record {
      wrote = record {
        done = all.done;
        wrote = subst (AreMade old new) same all.wrote;
        well = all.well;
        named = all.named ∙ ap (filter_map (made_by old.caller)) same;
        wants = λ h. record { rest = []; all = append-nil (claimed_calls tells (calls_of (all.done ++ []))) ∙ (ap (λ (l : List Said). claimed_calls tells (calls_of l)) (sym same) ∙ all.wants h) };
      };
      none = λ h. refl;
    }

-- entries that are named stand where calls left them
pub positions : (c : CallerId) (made : List Made) (calls : List Said) → made ≡ filter_map (made_by c) calls → map (λ (one : Made). one.position) made ≡ filter_map place_left calls
positions c made calls named = ap (map (λ (one : Made). one.position)) named ∙ named_places c calls

module _ (source source_read source_then target target_read target_then : Known) (report : SyncReport) (both : DidBoth source source_read target target_read) where
  -- what both links did
  did_source : Did source_read source_then (faulted_at (ended_copy report.copies)) → Did source source_then (faulted_at (ended_copy report.copies))
  did_source did = did_then source source_read source_then [] (faulted_at (ended_copy report.copies)) both.at_source did

  pub did_target : (calls : List Said) → AreMade target_read target_then calls → Did target target_then (filter_map place_left calls)
  did_target calls made = did_then target target_read target_then [] (filter_map place_left calls) both.at_target (did_made target_read target_then calls both.at_target.lawful made)

  -- the entries that calls left stand in the target's journal
  made_there : (calls : List Said) → AreMade target_read target_then calls → AllByRecursion (IsMadeIn target_then.seen target.caller) (filter_map (made_by target_read.caller) calls)
  made_there calls made =
      subst (λ (c : CallerId). AllByRecursion (IsMadeIn target_then.seen c) (filter_map (made_by target_read.caller) calls)) both.at_target.goes.caller (made_in target_read target_then calls target_then.seen made (prefix_self target_then.seen))

  calls_by : (before last : List Made) (calls : List Said) → Did source_read source_then (faulted_at (ended_copy report.copies)) → AllByRecursion (IsFailedRead source_then.seen source.caller) (faulted_at (ended_copy report.copies)) →
      report.moves ≡ before ++ last → AreMade target_read target_then calls → before ++ (all_made report.copies ++ last) ≡ filter_map (made_by target_read.caller) calls → AreSyncCalls source source_then target target_then report
  calls_by before last calls did failed moves made named = record {
    source_goes = has_gone source source_then (faulted_at (ended_copy report.copies)) (did_source did);
    target_goes = has_gone target target_then (filter_map place_left calls) (did_target calls made);
    source_places = (did_source did).places;
    failed = failed;
    made = before ++ (all_made report.copies ++ last);
    all = record { before = before; last = last; moves = moves; all = refl };
    target_places = subst (AddPlaces target target_then) (sym (positions target_read.caller (before ++ (all_made report.copies ++ last)) calls named)) (did_target calls made).places;
    entered = subst (AllByRecursion (IsMadeIn target_then.seen target.caller)) (sym named) (made_there calls made);
    numbers = subst (λ (l : List Made). seqs_rise target.calls target_then.calls l ≡ true) (sym named) (made_rise target_read.caller target.calls target_read target_then calls both.at_target.counted made);
  }

  pub carried_calls : CallsOfCopy → CopyOfFrozenIsFront → (start : SyncStart) (root : List ℕ) (plan : Plan) (looks : List Look) → IsCarried start root plan source_read source_then target_read target_then report.moves report.copies looks report.answer →
      AreSyncCalls source source_then target target_then report
  carried_calls told is_front start root plan looks does =
      by (written told is_front start root plan source_read.tells (λ job. []) source_read source_read source_then target_read target_then refl (goes_self source_read) report.moves report.copies looks report.answer does)
    where
      did : Did source_read source_then (faulted_at (ended_copy report.copies))
      did = carried_did told start root plan source_read source_then target_read target_then report.moves report.copies looks report.answer both.at_source.lawful does

      failed : AllByRecursion (IsFailedRead source_then.seen source.caller) (faulted_at (ended_copy report.copies))
      failed =
          subst (λ (c : CallerId). AllByRecursion (IsFailedRead source_then.seen c) (faulted_at (ended_copy report.copies))) both.at_source.goes.caller
          (carried_failed told start root plan source_read source_then target_read target_then report.moves report.copies looks report.answer does)

      by : AreSomeWritten start root plan source_read.tells (λ job. []) source_read source_read source_then target_read target_then report.moves report.copies looks report.answer
          ⊎ AreAllWritten start root plan source_read.tells (λ job. []) source_read source_read source_then target_read target_then report.moves report.copies looks report.answer →
          AreSyncCalls source source_then target target_then report
      by (inl some) = calls_by some.before some.last (some.wrote.done ++ option_to_list some.failed) did failed some.moves_are some.wrote.wrote some.wrote.named
      by (inr all) = calls_by all.before (all.deleted ∷ []) all.wrote.done did failed all.moves_are all.wrote.wrote all.wrote.named
