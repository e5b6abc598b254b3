-- What calls that left no entry did, and a sync that ended before it made a call of its plan.
use Rattle.std.proofs.Common.{◌≡◌, ℕ, ◌≤◌, nat_le, Bool, true, false, cond, Some, None, List, [], ◌∷◌, ◌++◌, Result, Option, refl, ap, sym, ◌∙◌, subst, append-nil, arith}
use Rattle.std.specs.List.{filter_map, cons_option, flat_map, AllByRecursion}
use Rattle.std.proofs.lemmas.Bool.Decides.{nat_tests}
use Rattle.hs_types.specs.declared.ids.Side.{Side}
use Rattle.hs_types.specs.declared.ids.Side.TheVariants.{Source, Target}
use Rattle.hs_types.specs.declared.call.Call.{Call}
use Rattle.hs_plain.specs.Answer.{is_modifying, uses_store}
use Rattle.hs_plain.specs.Legal.{Said, leaves_entry, place_left}
use Rattle.page_join.specs.Links.{Known, IsLawful}
use Rattle.page_join.specs.Made.{AreMade}
use Rattle.copy_workers.specs.declared.copied.Made.{Made}
use Rattle.copy_workers.specs.declared.copied.Copied.{Copied}
use Rattle.copy_workers.specs.declared.copied.Look.{Look}
use Rattle.distcp_sync.specs.declared.answer.SyncAnswer.{SyncAnswer}
use Rattle.distcp_sync.specs.declared.fetching.Fetched.{Fetched}
use Rattle.distcp_sync.specs.declared.report.SyncReport.{SyncReport}
use Rattle.distcp_sync.specs.declared.start.SyncStart.{SyncStart}
use Rattle.distcp_sync.specs.Steps.{AreAllMade, ended_copy}
use Rattle.distcp_sync.specs.Calls.{AddPlaces, AreSyncCalls, IsFailedRead, faulted_at}
use Rattle.distcp_sync.specs.inside.Trace.{HasRead, IsFetchCall, lines, names, root, items, IsFetched, fetched, wanting, at_source, at_target}
use Rattle.distcp_sync.proofs.Heard.{made_goes}
use Rattle.distcp_sync.proofs.Places.{made_places}
use Rattle.distcp_sync.proofs.Did.{Did, did_then, did_read, did_same, did_call, has_gone}
use Rattle.distcp_sync.proofs.Begun.{DidBoth}

-- ---- calls of one link

made_counted : (old new : Known) (calls : List Said) → AreMade old new calls → old.calls ≤ new.calls
made_counted old new [] made = subst (λ (k : Known). old.calls ≤ k.calls) (sym made) (omega arith)
made_counted old new (said ∷ more) made = omega (arith, (did_call old made.0 said.call said.told made.1).counted, made_counted made.0 new more made.3)

made_lawful : (old new : Known) (calls : List Said) → IsLawful old → AreMade old new calls → IsLawful new
made_lawful old new [] lawful made = subst IsLawful (sym made) lawful
made_lawful old new (said ∷ more) lawful made = made_lawful made.0 new more made.1.lawful made.3

pub did_made : (old new : Known) (calls : List Said) → IsLawful old → AreMade old new calls → Did old new (filter_map place_left calls)
did_made old new calls lawful made = record {
  goes = made_goes old new calls made;
  counted = made_counted old new calls made;
  lawful = made_lawful old new calls lawful made;
  places = made_places old new calls made;
}

none_left : (calls : List Said) → AllByRecursion (λ said. leaves_entry said.call said.told.reply ≡ false) calls → filter_map place_left calls ≡ []
none_left [] all = refl
none_left (said ∷ more) all = ap (λ b. cons_option (cond b (Some said.told.position) None) (filter_map place_left more)) all.0 ∙ none_left more all.1

pub did_reads : (old new : Known) → IsLawful old → HasRead old new → Did old new []
did_reads old new lawful has = subst (Did old new) (none_left has.calls has.read.unentered) (did_made old new has.calls lawful has.read.made)

-- ---- the fetching

fetch_modifies : (start : SyncStart) (page : ℕ) (source : Known) (side : Side) (call : Call) → IsFetchCall start page source side call → is_modifying call ≡ false
fetch_modifies start page source side call (lines cursor r f t) = refl
fetch_modifies start page source side call (names after) = refl
fetch_modifies start page source side call (root after) = refl
fetch_modifies start page source side call (items dir after listed) = refl

fetch_stores : (start : SyncStart) (page : ℕ) (source : Known) (side : Side) (call : Call) → IsFetchCall start page source side call → uses_store call ≡ false
fetch_stores start page source side call (lines cursor r f t) = refl
fetch_stores start page source side call (names after) = refl
fetch_stores start page source side call (root after) = refl
fetch_stores start page source side call (items dir after listed) = refl

pub did_fetch : (start : SyncStart) (page : ℕ) (source source_then target target_then : Known) (looks : List Look) (result : Result Fetched SyncAnswer) → IsLawful source → IsLawful target →
    IsFetched start page source source_then target target_then looks result → DidBoth source source_then target target_then
did_fetch start page s s2 t t2 looks result ls lt (fetched what rs rt of) = record { at_source = did_reads s s2 ls rs; at_target = did_reads t t2 lt rt }
did_fetch start page s s2 t t2 looks result ls lt (wanting rs rt) = record { at_source = did_reads s s2 ls rs; at_target = did_reads t t2 lt rt }
did_fetch start page s s2 t t2 looks result ls lt (at_source call look now answer rs rt is bad told) =
    record { at_source = did_then s now s2 [] [] (did_reads s now ls rs) (did_read Source now s2 call look bad.looked (fetch_modifies start page s Source call is) (fetch_stores start page s Source call is)); at_target = did_reads t t2 lt rt }
did_fetch start page s s2 t t2 looks result ls lt (at_target call look now answer rs rt is bad told) =
    record { at_source = did_reads s s2 ls rs; at_target = did_then t now t2 [] [] (did_reads t now lt rt) (did_read Target now t2 call look bad.looked (fetch_modifies start page s Target call is) (fetch_stores start page s Target call is)) }

pub both_then : (source source_now source_then target target_now target_then : Known) → DidBoth source source_now target target_now → DidBoth source_now source_then target_now target_then → DidBoth source source_then target target_then
both_then s sn s2 t tn t2 a b = record { at_source = did_then s sn s2 [] [] a.at_source b.at_source; at_target = did_then t tn t2 [] [] a.at_target b.at_target }

-- ---- a sync that made no call of its plan

le_yes : (a b : ℕ) → a ≤ b → nat_le a b ≡ true
le_yes a b h = grind (arith, nat_tests)

none_made : (copies : List Copied) → copies ≡ [] → flat_map (λ (copied : Copied). copied.made) copies ++ [] ≡ []
none_made copies none = ap (λ (cs : List Copied). flat_map (λ (copied : Copied). copied.made) cs ++ []) none

pub unmade_all : (report : SyncReport) → report.moves ≡ [] → report.copies ≡ [] → AreAllMade report []
unmade_all report moves copies = record { before = []; last = []; moves = moves; all = sym (none_made report.copies copies) }

pub unmade_calls : (source source_then target target_then : Known) (report : SyncReport) → DidBoth source source_then target target_then → report.moves ≡ [] → report.copies ≡ [] → AreSyncCalls source source_then target target_then report
unmade_calls s s2 t t2 report did moves copies = record {
  source_goes = has_gone s s2 [] did.at_source;
  target_goes = has_gone t t2 [] did.at_target;
  source_places = subst (λ (cs : List Copied). AddPlaces s s2 (faulted_at (ended_copy cs))) (sym copies) did.at_source.places;
  failed = subst (λ (cs : List Copied). AllByRecursion (IsFailedRead s2.seen s.caller) (faulted_at (ended_copy cs))) (sym copies) tt;
  made = [];
  all = unmade_all report moves copies;
  target_places = did.at_target.places;
  entered = tt;
  numbers = le_yes t.calls t2.calls did.at_target.counted;
}
