-- Copies, one after the other, as calls of the plan.
use Rattle.std.proofs.Common.{◌≡◌, ℕ, suc, ◌+◌, Bool, false, Option, Some, None, List, [], ◌∷◌, length, map, slice_get, refl, sym, ◌∙◌, subst, append-nil, arith}
use Rattle.std.specs.Prelude.{IfSome}
use Rattle.std.specs.List.{flat_map, AllByRecursion}
use Rattle.hs_types.specs.declared.ids.Side.{Side}
use Rattle.hs_types.specs.declared.ids.SnapId.{SnapId}
use Rattle.hs_types.specs.declared.call.Call.{Call}
use Rattle.hs_plain.specs.declared.plan.CopyJob.{CopyJob}
use Rattle.hs_plain.specs.Answer.{is_ok_reply}
use Rattle.hs_plain.specs.Legal.{Said}
use Rattle.hs_plain.specs.Plan.{text_below}
use Rattle.page_join.specs.Links.{Known}
use Rattle.copy_workers.specs.Copying.{IsCopy}
use Rattle.copy_workers.specs.CopyLaws.{AreEnded, AreCallsOf, CallsOfCopy, CopyOfFrozenIsFront}
use Rattle.hs_types.specs.declared.call.Place.TheVariants as places
use Rattle.copy_workers.specs.declared.copied.Made.{Made}
use Rattle.copy_workers.specs.declared.copied.Look.{Look}
use Rattle.copy_workers.specs.declared.copied.Copied.{Copied}
use Rattle.distcp_sync.specs.inside.Trace.{AreCopied}
use Rattle.distcp_sync.proofs.Heard.{Goes, goes_then, made_goes}
use Rattle.distcp_sync.proofs.Wrote.{WroteAll, Wrote, wrote_none, all_then, some_then, some_more, all_if, some_if}
use Rattle.distcp_sync.proofs.CopiesWrote.{IsLastLooked, IsCut, IsFile, job_calls, wrote_copy, wrote_cut}

-- the entries that copies made
abbrev pub all_made : List Copied → List Made
all_made copies = flat_map (λ copied. copied.made) copies

-- the files of jobs have their bytes in what was seen first
abbrev pub AreFiles : SnapId → (CopyJob → List ℕ) → Known → List CopyJob → Type 0
AreFiles snap bytes first jobs = AllByRecursion (IsFile snap bytes first) jobs

-- the calls of jobs' copies
abbrev pub jobs_calls : List ℕ → (CopyJob → List ℕ) → List CopyJob → List Call
jobs_calls root bytes jobs = flat_map (λ calls. calls) (map (job_calls root bytes) jobs)

-- a call that was looked at behind others stays so behind further ones
pub last_later : (side : Side) (older old new : Known) (call : Call) (look : Look) → Goes older old → IsLastLooked side old new call look → IsLastLooked side older new call look
last_later side older old new call look goes last = record { now = last.now; before = goes_then older old last.now goes last.before; looked = last.looked }

pub cut_later : (snap : SnapId) (job : CopyJob) (source source_now source_then target target_now target_then : Known) (look : Look) (failed : Option Said) → Goes source source_now → Goes target target_now →
    IsCut snap job source_now source_then target_now target_then look failed → IsCut snap job source source_then target target_then look failed
cut_later snap job s sn s2 t tn t2 look failed at_source at_target (IsCut.by_memory is) = IsCut.by_memory is
cut_later snap job s sn s2 t tn t2 look failed at_source at_target (IsCut.by_read offset last) = IsCut.by_read offset (last_later _ s sn s2 _ look at_source last)
cut_later snap job s sn s2 t tn t2 look failed at_source at_target (IsCut.by_write said told last) = IsCut.by_write said told (last_later _ t tn t2 _ look at_target last)

-- copies of which the last was cut short
pub record AreCut (tells : Bool) (snap : SnapId) (root : List ℕ) (bytes : CopyJob → List ℕ) (first : Known) (jobs : List CopyJob) (source source_then target target_then : Known) (copies : List Copied) (look : Look) : Type 0 where
  pub failed : Option Said
  pub wrote : Wrote (AreFiles snap bytes first jobs) tells (jobs_calls root bytes jobs) target target_then (all_made copies) failed
  pub bad_last : IfSome failed (λ last. is_ok_reply last.told.reply ≡ false)
  pub index : ℕ
  pub job : CopyJob
  pub job_is : slice_get jobs index ≡ Some job
  pub count : length copies ≡ index + 1
  pub cut : IsCut snap job source source_then target target_then look failed
  pub bad : is_ok_reply look.reply.reply ≡ false

module _ (told : CallsOfCopy) (is_front : CopyOfFrozenIsFront) (tells : Bool) (snap : SnapId) (root : List ℕ) (bytes : CopyJob → List ℕ) (first : Known) where
  abbrev All : List CopyJob → Known → Known → List Made → Type 0
  All jobs old new made = WroteAll (AreFiles snap bytes first jobs) tells (jobs_calls root bytes jobs) old new made

  -- one copy that is whole
  one_whole : (number : ℕ) (job : CopyJob) (source source_then target target_then : Known) (copied : Copied) → tells ≡ source.tells → Goes first source → IsCopy number job snap root source source_then target target_then copied → copied.ended ≡ None →
      WroteAll (IsFile snap bytes first job) tells (job_calls root bytes job) target target_then copied.made × Goes source source_then × Goes target target_then
  one_whole number job s s2 t t2 copied tells_is goes copy ends =
      let found = told number job snap root s s2 t t2 copied copy in
      let of : AreCallsOf (text_below root job.to) (places.Frozen job.id snap) s s2 t t2 copied.made copied.ended found.0 found.1 = found.2 in (
        wrote_copy is_front tells snap root bytes first job s s2 t t2 copied.made copied.ended found.0 found.1 tells_is goes of ends,
        made_goes s s2 found.0 of.read,
        made_goes t t2 found.1 of.written,
      )

  -- all were whole
  pub chain_all : (number : ℕ) (jobs : List CopyJob) (source source_then target target_then : Known) (copies : List Copied) (ended : Option Look) → ended ≡ None → tells ≡ source.tells → Goes first source →
      AreCopied snap root number jobs source source_then target target_then copies ended → All jobs target target_then (all_made copies) × (length copies ≡ length jobs)
  chain_all number jobs s s2 t t2 copies ended none tells_is goes (AreCopied.all n source target) = (wrote_none (AreFiles snap bytes first []) tells t, refl)
  chain_all number jobs s s2 t t2 copies ended none tells_is goes (AreCopied.ends n job more a b c d copied look copy ends) = absurd (cc)
  chain_all number jobs s s2 t t2 copies ended none tells_is goes (AreCopied.next n job more a now b c then_now d copied others late copy ends rest) =
      let one = one_whole number job s now t then_now copied tells_is goes copy ends in
      let others_did = chain_all (number + 1) more now s2 then_now t2 others ended none (tells_is ∙ sym one.1.tells) (goes_then first s now goes one.1) rest in (
        all_then (AreFiles snap bytes first (job ∷ more)) tells (job_calls root bytes job) (jobs_calls root bytes more) t then_now t2 copied.made (all_made others)
            (all_if (IsFile snap bytes first job) (AreFiles snap bytes first (job ∷ more)) tells (job_calls root bytes job) t then_now copied.made (λ files. files.0) one.0)
            (all_if (AreFiles snap bytes first more) (AreFiles snap bytes first (job ∷ more)) tells (jobs_calls root bytes more) then_now t2 (all_made others) (λ files. files.1) others_did.0),
        omega (arith, others_did.1),
      )

  -- the last was cut short
  one_cut : (number : ℕ) (job : CopyJob) (more : List CopyJob) (source source_then target target_then : Known) (copied : Copied) (look : Look) → tells ≡ source.tells → Goes first source → IsCopy number job snap root source source_then target target_then copied →
      copied.ended ≡ Some look → AreCut tells snap root bytes first (job ∷ more) source source_then target target_then (copied ∷ []) look
  one_cut number job more s s2 t t2 copied look tells_is goes copy ends =
      let found = told number job snap root s s2 t t2 copied copy in
      let of : AreCallsOf (text_below root job.to) (places.Frozen job.id snap) s s2 t t2 copied.made copied.ended found.0 found.1 = found.2 in
      let cut = wrote_cut is_front tells snap root bytes first job s s2 t t2 copied.made copied.ended found.0 found.1 tells_is goes of look
      (subst (AreEnded s.caller t.caller (text_below root job.to) (places.Frozen job.id snap) found.0 found.1) ends of.end) in
      record {
        failed = cut.0;
        wrote =
            subst (λ (l : List Made). Wrote (AreFiles snap bytes first (job ∷ more)) tells (jobs_calls root bytes (job ∷ more)) t t2 l cut.0) (sym (append-nil copied.made))
            (some_more (AreFiles snap bytes first (job ∷ more)) tells (job_calls root bytes job) (jobs_calls root bytes more) t t2 copied.made cut.0
            (some_if (IsFile snap bytes first job) (AreFiles snap bytes first (job ∷ more)) tells (job_calls root bytes job) t t2 copied.made cut.0 (λ files. files.0) cut.1));
        bad_last = cut.4;
        index = 0;
        job = job;
        job_is = refl;
        count = refl;
        cut = cut.2;
        bad = cut.3;
      }

  pub chain_cut : (number : ℕ) (jobs : List CopyJob) (source source_then target target_then : Known) (copies : List Copied) (ended : Option Look) (look : Look) → ended ≡ Some look → tells ≡ source.tells → Goes first source →
      AreCopied snap root number jobs source source_then target target_then copies ended → AreCut tells snap root bytes first jobs source source_then target target_then copies look
  chain_cut number jobs s s2 t t2 copies ended look some tells_is goes (AreCopied.all n source target) = absurd (cc)
  chain_cut number jobs s s2 t t2 copies ended look some tells_is goes (AreCopied.ends n job more a b c d copied other copy ends) = one_cut number job more s s2 t t2 copied look tells_is goes copy (ends ∙ some)
  chain_cut number jobs s s2 t t2 copies ended look some tells_is goes (AreCopied.next n job more a now b c then_now d copied others late copy ends rest) =
      let one = one_whole number job s now t then_now copied tells_is goes copy ends in
      let cut = chain_cut (number + 1) more now s2 then_now t2 others ended look some (tells_is ∙ sym one.1.tells) (goes_then first s now goes one.1) rest in
      record {
        failed = cut.failed;
        wrote =
            some_then (AreFiles snap bytes first (job ∷ more)) tells (job_calls root bytes job) (jobs_calls root bytes more) t then_now t2 copied.made (all_made others) cut.failed
            (all_if (IsFile snap bytes first job) (AreFiles snap bytes first (job ∷ more)) tells (job_calls root bytes job) t then_now copied.made (λ files. files.0) one.0)
            (some_if (AreFiles snap bytes first more) (AreFiles snap bytes first (job ∷ more)) tells (jobs_calls root bytes more) then_now t2 (all_made others) cut.failed (λ files. files.1) cut.wrote);
        bad_last = cut.bad_last;
        index = suc cut.index;
        job = cut.job;
        job_is = cut.job_is;
        count = omega (arith, cut.count);
        cut = cut_later snap cut.job s now s2 t then_now t2 look cut.failed one.1 one.2 cut.cut;
        bad = cut.bad;
      }
