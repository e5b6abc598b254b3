-- What copies wrote and read, one after the other.
use Rattle.std.proofs.Common.{◌≡◌, ℕ, ◌+◌, ◌==◌, Bool, true, false, cond, ◌&&◌, ◌||◌, Option, Some, None, Ok, List, [], ◌∷◌, ◌++◌, length, take, refl, ap, sym, ◌∙◌, subst, append-nil, arith}
use Rattle.std.specs.Prelude.{IfSome}
use Rattle.std.specs.List.{filter_map, cons_option, AllByRecursion}
use Rattle.std.proofs.Math.Seq.{take-append_seam}
use Rattle.std.proofs.lemmas.Bool.Decides.{nat_tests}
use Rattle.std.proofs.lemmas.List.Elements.{filter_map-append}
use Rattle.hs_types.specs.declared.ids.CallerId.{CallerId}
use Rattle.hs_types.specs.declared.ids.Side.{Side}
use Rattle.hs_types.specs.declared.ids.Side.TheVariants.{Source, Target}
use Rattle.hs_types.specs.declared.ids.SnapId.{SnapId}
use Rattle.hs_types.specs.declared.call.Call.{Call}
use Rattle.hs_types.specs.declared.call.Call.TheVariants as calls
use Rattle.hs_types.specs.declared.call.Place.{Place}
use Rattle.hs_types.specs.declared.call.Place.TheVariants as places
use Rattle.hs_types.specs.declared.journal.Entry.{Entry}
use Rattle.hs_plain.specs.declared.plan.CopyJob.{CopyJob}
use Rattle.hs_plain.specs.Answer.{is_modifying, is_ok_reply, is_store_fault}
use Rattle.hs_plain.specs.Legal.{Said, place_left}
use Rattle.hs_plain.specs.Plan.{IsFront, copy_calls, text_below}
use Rattle.hs_plain.specs.Reading.{file_at}
use Rattle.hs_plain.specs.Replay.{plain_after}
use Rattle.page_join.specs.Links.{Known, IsLawful, IsCall}
use Rattle.page_join.specs.Made.{AreMade}
use Rattle.copy_workers.specs.Calls.{made_by, look_at, wanting_of}
use Rattle.copy_workers.specs.Copying.{IsCopy}
use Rattle.copy_workers.specs.CopyLaws.{IsDone, ReadsAt, IsUndoneLast, AreCutShort, AreEnded, AreCallsOf, CallsOfCopy, calls_of, claimed_calls, AreFirstOfPlan, CopyOfFrozenIsFront}
use Rattle.copy_workers.specs.declared.copied.Made.{Made}
use Rattle.copy_workers.specs.declared.copied.Look.{Look}
use Rattle.copy_workers.specs.declared.copied.Copied.{Copied}
use Rattle.distcp_sync.specs.Steps.{or_later, ended_copy, are_numbered}
use Rattle.distcp_sync.specs.Calls.{faulted_at, faulted_by}
use Rattle.distcp_sync.specs.inside.Trace.{IsLooked, AreCopied}
use Rattle.distcp_sync.proofs.Heard.{Goes, goes_then, made_goes, front_length}
use Rattle.distcp_sync.proofs.Did.{Did, did_none, did_then}
use Rattle.distcp_sync.proofs.Unmade.{did_made}
use Rattle.distcp_sync.proofs.Firsts.{done_no_fault}
use Rattle.distcp_sync.proofs.Wrote.{WroteAll, Wrote}

-- ---- the last of some calls

-- calls, and one more
pub record IsMadeLast (old new : Known) (before : List Said) (last : Said) : Type 0 where
  pub now : Known
  pub made : AreMade old now before
  pub called : IsCall now new last.call last.told

pub made_last : (old new : Known) (before : List Said) (last : Said) → AreMade old new (before ++ last ∷ []) → IsMadeLast old new before last
made_last old new [] last made = record { now = old; made = refl; called = subst (λ (k : Known). IsCall old k last.call last.told) (sym made.3) made.1 }
made_last old new (said ∷ before) last made =
    let rest : IsMadeLast made.0 new before last = made_last made.0 new before last made.3 in
    record { now = rest.now; made = (made.0, made.1, made.2, rest.made); called = rest.called }

all_last : (P : Said → Type 0) (before : List Said) (last : Said) → AllByRecursion P (before ++ last ∷ []) → P last
all_last P [] last all = all.0
all_last P (said ∷ before) last all = all_last P before last all.1

all_before : (P : Said → Type 0) (before : List Said) (last : Said) → AllByRecursion P (before ++ last ∷ []) → AllByRecursion P before
all_before P [] last all = tt
all_before P (said ∷ before) last all = (all.0, all_before P before last all.1)

-- a call that was looked at, behind others
pub record IsLastLooked (side : Side) (old new : Known) (call : Call) (look : Look) : Type 0 where
  pub now : Known
  pub before : Goes old now
  pub looked : IsLooked side now new call look

last_looked : (side : Side) (old new : Known) (before : List Said) (last : Said) (look : Look) → look ≡ look_at side old.caller last.told → AreMade old new (before ++ last ∷ []) →
    IsLastLooked side old new last.call look
last_looked side old new before last look is made =
    let split : IsMadeLast old new before last = made_last old new before last made in
    let goes : Goes old split.now = made_goes old split.now before split.made in
    let told : look.reply ≡ last.told = ap (λ (l : Look). l.reply) is in
    record {
      now = split.now;
      before = goes;
      looked = record {
        look_is = is ∙ (ap (λ (c : CallerId). look_at side c last.told) (sym goes.caller) ∙ ap (look_at side split.now.caller) (sym told));
        called = subst (IsCall split.now new last.call) (sym told) split.called;
      };
    }

-- ---- the reads

or_false : (fault modifies ok : Bool) → fault ≡ false → modifies ≡ false → (fault || (modifies && ok)) ≡ false
or_false true modifies ok f m = f
or_false false true ok f m = absurd (cc)
or_false false false ok f m = refl

reads_none : (place : Place) (reads : List Said) → AllByRecursion IsDone reads → AllByRecursion (ReadsAt place) reads → filter_map place_left reads ≡ []
reads_none place [] done asked = refl
reads_none place (said ∷ more) done asked =
    ap (λ b. cons_option (cond b (Some said.told.position) None) (filter_map place_left more))
    (or_false (is_store_fault said.told.reply) (is_modifying said.call) (is_ok_reply said.told.reply) (done_no_fault said.told.reply done.0) (ap is_modifying asked.0.1))
    ∙ reads_none place more done.1 asked.1

-- a last read leaves the entry of a fault alone
last_by : (position : ℕ) (fault modifies ok : Bool) → modifies ≡ false → cons_option (cond (fault || (modifies && ok)) (Some position) None) [] ≡ cond fault (position ∷ []) []
last_by position true modifies ok m = refl
last_by position false true ok m = absurd (cc)
last_by position false false ok m = refl

faulted_last : (place : Place) (caller : CallerId) (last : Said) (look : Look) → ReadsAt place last → look ≡ look_at Source caller last.told → filter_map place_left (last ∷ []) ≡ faulted_by look.side look
faulted_last place caller last look asked is =
    last_by last.told.position (is_store_fault last.told.reply) (is_modifying last.call) (is_ok_reply last.told.reply) (ap is_modifying asked.1)
    ∙ ap (λ (l : Look). faulted_by l.side l) (sym is)

-- want of memory is no fault
wanting_none : (side : Side) (caller : CallerId) → faulted_by side (wanting_of side caller) ≡ []
wanting_none Source caller = refl
wanting_none Target caller = refl

-- what the reads of a copy that was cut short left
cut_left : (place : Place) (source target : CallerId) (reads writes : List Said) (look : Look) → AllByRecursion (ReadsAt place) reads → AreCutShort source target reads writes look → filter_map place_left reads ≡ faulted_by look.side look
cut_left place source target reads writes look asked (AreCutShort.by_read last written) =
    let each : AllByRecursion (ReadsAt place) (last.before ++ last.last ∷ []) = subst (AllByRecursion (ReadsAt place)) last.all asked in
    ap (filter_map place_left) last.all
    ∙ (filter_map-append place_left last.before (last.last ∷ [])
    ∙ (ap (λ (l : List ℕ). l ++ filter_map place_left (last.last ∷ [])) (reads_none place last.before last.done (all_before (ReadsAt place) last.before last.last each))
    ∙ faulted_last place source last.last look (all_last (ReadsAt place) last.before last.last each) last.look_is))
cut_left place source target reads writes look asked (AreCutShort.by_write last done) = reads_none place reads done asked ∙ ap (λ (l : Look). faulted_by l.side l) {x = look_at Target target last.last.told} {y = look} (sym last.look_is)
cut_left place source target reads writes look asked (AreCutShort.at_source is done written) = reads_none place reads done asked ∙ (sym (wanting_none Source source) ∙ ap (λ (l : Look). faulted_by l.side l) (sym is))
cut_left place source target reads writes look asked (AreCutShort.at_target is done written) = reads_none place reads done asked ∙ (sym (wanting_none Target target) ∙ ap (λ (l : Look). faulted_by l.side l) (sym is))

pub ended_left : (path : List ℕ) (place : Place) (source target : CallerId) (reads writes : List Said) (ended : Option Look) → AllByRecursion (ReadsAt place) reads → AreEnded source target path place reads writes ended →
    filter_map place_left reads ≡ faulted_at ended
ended_left path place source target reads writes None asked whole = reads_none place reads whole.reads_done asked
ended_left path place source target reads writes (Some look) asked cut = cut_left place source target reads writes look asked cut

copy_did : CallsOfCopy → (number : ℕ) (job : CopyJob) (snap : SnapId) (root : List ℕ) (source source_then target target_then : Known) (copied : Copied) → IsLawful source → IsCopy number job snap root source source_then target target_then copied →
    Did source source_then (faulted_at copied.ended)
copy_did told number job snap root s s2 t t2 copied lawful copy =
    let found = told number job snap root s s2 t t2 copied copy in
    let of : AreCallsOf (text_below root job.to) (places.Frozen job.id snap) s s2 t t2 copied.made copied.ended found.0 found.1 = found.2 in
    subst (Did s s2) (ended_left (text_below root job.to) (places.Frozen job.id snap) s.caller t.caller found.0 found.1 copied.ended of.asked of.end) (did_made s s2 found.0 lawful of.read)

-- copies leave the entry of a faulted read alone at the source
pub copies_did : CallsOfCopy → (snap : SnapId) (root : List ℕ) (number : ℕ) (jobs : List CopyJob) (source source_then target target_then : Known) (copies : List Copied) (ended : Option Look) → IsLawful source →
    AreCopied snap root number jobs source source_then target target_then copies ended → Did source source_then (faulted_at ended)
copies_did told snap root number jobs s s2 t t2 copies ended lawful (AreCopied.all n source target) = did_none s lawful
copies_did told snap root number jobs s s2 t t2 copies ended lawful (AreCopied.ends n job more a b c d copied look copy ends) =
    subst (λ (o : Option Look). Did s s2 (faulted_at o)) ends (copy_did told number job snap root s s2 t t2 copied lawful copy)
copies_did told snap root number jobs s s2 t t2 copies ended lawful (AreCopied.next n job more a now b c then_now d copied others late copy ends rest) =
    let first : Did s now [] = subst (λ (o : Option Look). Did s now (faulted_at o)) ends (copy_did told number job snap root s now t then_now copied lawful copy) in
    did_then s now s2 [] (faulted_at ended) first (copies_did told snap root (number + 1) more now s2 then_now t2 others ended first.lawful rest)

-- ---- their numbers, and what ended them

same_number : (n : ℕ) (b : Bool) → b ≡ true → ((n == n) && b) ≡ true
same_number n b h = grind (arith, nat_tests)

numbered : (number job : ℕ) (more : Bool) → job ≡ number → more ≡ true → (job == number && more) ≡ true
numbered number job more is rest = subst (λ n. (n == number && more) ≡ true) (sym is) (same_number number more rest)

pub copies_numbered : (snap : SnapId) (root : List ℕ) (number : ℕ) (jobs : List CopyJob) (source source_then target target_then : Known) (copies : List Copied) (ended : Option Look) →
    AreCopied snap root number jobs source source_then target target_then copies ended → are_numbered number copies ≡ true
copies_numbered snap root number jobs s s2 t t2 copies ended (AreCopied.all n source target) = refl
copies_numbered snap root number jobs s s2 t t2 copies ended (AreCopied.ends n job more a b c d copied look copy ends) = numbered number copied.job true copy.job_is refl
copies_numbered snap root number jobs s s2 t t2 copies ended (AreCopied.next n job more a now b c then_now d copied others late copy ends rest) =
    numbered number copied.job (are_numbered (number + 1) others) copy.job_is (copies_numbered snap root (number + 1) more now s2 then_now t2 others ended rest)

pub copies_ended : (snap : SnapId) (root : List ℕ) (number : ℕ) (jobs : List CopyJob) (source source_then target target_then : Known) (copies : List Copied) (ended : Option Look) →
    AreCopied snap root number jobs source source_then target target_then copies ended → ended_copy copies ≡ ended
copies_ended snap root number jobs s s2 t t2 copies ended (AreCopied.all n source target) = refl
copies_ended snap root number jobs s s2 t t2 copies ended (AreCopied.ends n job more a b c d copied look copy ends) = ap (λ (o : Option Look). or_later o None) ends
copies_ended snap root number jobs s s2 t t2 copies ended (AreCopied.next n job more a now b c then_now d copied others late copy ends rest) =
    ap (λ (o : Option Look). or_later o (ended_copy others)) ends ∙ copies_ended snap root (number + 1) more now s2 then_now t2 others ended rest

-- ---- the writes of one copy

-- how a copy ended before it was whole, by the call at the target that was not done, if one was
pub data IsCut (snap : SnapId) (job : CopyJob) (source source_then target target_then : Known) (look : Look) : Option Said → Type 0 where
  by_memory : look ≡ wanting_of look.side look.caller → IsCut snap job source source_then target target_then look None
  by_read : (offset : ℕ) → IsLastLooked Source source source_then (calls.ReadNext (record { place = places.Frozen job.id snap; offset = offset }) 65536) look → IsCut snap job source source_then target target_then look None
  by_write : (last : Said) → look.reply ≡ last.told → IsLastLooked Target target target_then last.call look → IsCut snap job source source_then target target_then look (Some last)

-- the file of a job has its bytes in what was seen first
abbrev pub IsFile : SnapId → (CopyJob → List ℕ) → Known → CopyJob → Type 0
IsFile snap bytes first job = file_at (plain_after first.seen) (places.Frozen job.id snap) ≡ Ok (bytes job)

abbrev pub job_calls : List ℕ → (CopyJob → List ℕ) → CopyJob → List Call
job_calls root bytes job = copy_calls root job.to (bytes job)

module _ (is_front : CopyOfFrozenIsFront) (tells : Bool) (snap : SnapId) (root : List ℕ) (bytes : CopyJob → List ℕ) (first : Known) where
  seen_first : (later : Known) → Goes first later → take (length first.seen) later.seen ≡ first.seen
  seen_first later goes = ap (take (length first.seen)) (sym goes.grown.1) ∙ take-append_seam first.seen goes.grown.0

  module _ (job : CopyJob) (source source_then target target_then : Known) (made : List Made) (ended : Option Look) (reads writes : List Said) (tells_is : tells ≡ source.tells) (goes : Goes first source)
      (of : AreCallsOf (text_below root job.to) (places.Frozen job.id snap) source source_then target target_then made ended reads writes) where
    fronts : IsFile snap bytes first job → AreFirstOfPlan tells root job (bytes job) writes ended
    fronts file =
        subst (λ (b : Bool). AreFirstOfPlan b root job (bytes job) writes ended) (sym tells_is)
        (is_front job snap root source source_then target target_then made ended reads writes (bytes job) (length first.seen) of (front_length first.seen source.seen goes.grown)
        (ap (λ (l : List Entry). file_at (plain_after l) (places.Frozen job.id snap)) (seen_first source_then (goes_then first source source_then goes (made_goes source source_then reads of.read))) ∙ file))

    pub wrote_copy : ended ≡ None → WroteAll (IsFile snap bytes first job) tells (job_calls root bytes job) target target_then made
    wrote_copy none = record {
      done = writes;
      wrote = of.written;
      well = (subst (AreEnded source.caller target.caller (text_below root job.to) (places.Frozen job.id snap) reads writes) none of.end).writes_done;
      named = of.named;
      wants = λ file. (fronts file).whole none;
    }

    -- all writes were done
    wrote_well : AllByRecursion IsDone writes → Wrote (IsFile snap bytes first job) tells (job_calls root bytes job) target target_then made None
    wrote_well well =
        let same : writes ≡ writes ++ [] = sym (append-nil writes) in
        record {
          done = writes;
          wrote = subst (AreMade target target_then) same of.written;
          well = well;
          named = of.named ∙ ap (filter_map (made_by target.caller)) same;
          wants = λ file. subst (λ (l : List Said). IsFront (claimed_calls tells (calls_of l)) (claimed_calls tells (job_calls root bytes job))) same (fronts file).front;
        }

    -- the last one was not
    wrote_last : (look : Look) → (last : IsUndoneLast Target target.caller writes look) → Wrote (IsFile snap bytes first job) tells (job_calls root bytes job) target target_then made (Some last.last)
    wrote_last look last = record {
      done = last.before;
      wrote = subst (AreMade target target_then) last.all of.written;
      well = last.done;
      named = of.named ∙ ap (filter_map (made_by target.caller)) last.all;
      wants = λ file. subst (λ (l : List Said). IsFront (claimed_calls tells (calls_of l)) (claimed_calls tells (job_calls root bytes job))) last.all (fronts file).front;
    }

    read_at : (call : Call) (look : Look) → ReadsAt (places.Frozen job.id snap) (record { seq = 0; call = call; told = look.reply }) → IsLastLooked Source source source_then call look → IsCut snap job source source_then target target_then look None
    read_at call look asked looked =
        IsCut.by_read asked.0.offset
        (subst (λ (c : Call). IsLastLooked Source source source_then c look) (asked.1 ∙ ap (λ (p : Place). calls.ReadNext (record { place = p; offset = asked.0.offset }) 65536) asked.2) looked)

    pub wrote_cut : (look : Look) → AreCutShort source.caller target.caller reads writes look →
        (failed : Option Said) × Wrote (IsFile snap bytes first job) tells (job_calls root bytes job) target target_then made failed × IsCut snap job source source_then target target_then look failed × (is_ok_reply look.reply.reply ≡ false) ×
        IfSome failed (λ last. is_ok_reply last.told.reply ≡ false)
    wrote_cut look (AreCutShort.by_read last well) =
        let asked : ReadsAt (places.Frozen job.id snap) last.last = all_last (ReadsAt (places.Frozen job.id snap)) last.before last.last (subst (AllByRecursion (ReadsAt (places.Frozen job.id snap))) last.all of.asked) in (
          None,
          wrote_well well,
          read_at last.last.call look (asked.0, asked.1, asked.2) (last_looked Source source source_then last.before last.last look last.look_is (subst (AreMade source source_then) last.all of.read)),
          ap (λ (l : Look). is_ok_reply l.reply.reply) last.look_is ∙ last.undone,
          tt,
        )
    wrote_cut look (AreCutShort.by_write last done) = (
      Some last.last,
      wrote_last look last,
      IsCut.by_write last.last (ap (λ (l : Look). l.reply) last.look_is) (last_looked Target target target_then last.before last.last look last.look_is (subst (AreMade target target_then) last.all of.written)),
      ap (λ (l : Look). is_ok_reply l.reply.reply) last.look_is ∙ last.undone,
      last.undone,
    )
    wrote_cut look (AreCutShort.at_source is done well) = (None, wrote_well well, IsCut.by_memory (is ∙ ap (λ (l : Look). wanting_of l.side l.caller) (sym is)), ap (λ (l : Look). is_ok_reply l.reply.reply) is, tt)
    wrote_cut look (AreCutShort.at_target is done well) = (None, wrote_well well, IsCut.by_memory (is ∙ ap (λ (l : Look). wanting_of l.side l.caller) (sym is)), ap (λ (l : Look). is_ok_reply l.reply.reply) is, tt)
