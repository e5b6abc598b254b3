-- The entries of a sync that made calls of its plan, in a journal around what its link has seen.
use Rattle.std.proofs.Common.{◌≡◌, ℕ, ◌+◌, ◌≤◌, Bool, true, false, Option, Some, None, List, [], ◌∷◌, ◌++◌, length, map, refl, ap, sym, ◌∙◌, subst, append_assoc, arith}
use Rattle.std.specs.Prelude.{IfSome}
use Rattle.std.specs.Option.{option_to_list}
use Rattle.std.specs.List.{filter_map, AllByRecursion}
use Rattle.std.proofs.lemmas.List.Elements.{filter_map-append}
use Rattle.hs_types.specs.Names.{Names}
use Rattle.hs_types.specs.declared.ids.CallerId.{CallerId}
use Rattle.hs_types.specs.declared.call.Call.{Call}
use Rattle.hs_plain.specs.declared.plan.CopyJob.{CopyJob}
use Rattle.hs_plain.specs.declared.plan.Plan.{Plan}
use Rattle.hs_plain.specs.declared.plan.Put.{Put}
use Rattle.hs_plain.specs.declared.plan.Put.TheVariants.{Back, NewDir}
use Rattle.hs_types.specs.declared.call.Call.TheVariants as calls
use Rattle.hs_plain.specs.Answer.{is_ok_reply}
use Rattle.hs_plain.specs.Legal.{Said, entry_left, place_left}
use Rattle.hs_plain.specs.Plan.{IsFront, move_calls, out_calls, put_call, last_call, copy_calls, pages_of, text_below, bad_paths}
use Rattle.hs_plain.specs.Premises.{SyncAsk}
use Rattle.plan_laws.proofs.Lists.{each-append}
use Rattle.page_join.specs.Links.{Known}
use Rattle.copy_workers.specs.Calls.{made_by}
use Rattle.copy_workers.specs.CopyLaws.{claimed_calls, calls_of}
use Rattle.copy_workers.specs.declared.copied.Made.{Made}
use Rattle.copy_workers.specs.declared.copied.Look.{Look}
use Rattle.distcp_sync.specs.declared.report.SyncReport.{SyncReport}
use Rattle.distcp_sync.specs.declared.start.SyncStart.{SyncStart}
use Rattle.distcp_sync.specs.Steps.{SyncSides, AreEntries, IsNext, AreFaulted, are_numbered, up_to_last}
use Rattle.distcp_sync.specs.Synced.{HasTrees, HasMade, planned}
use Rattle.distcp_sync.specs.Around.{IsAround}
use Rattle.distcp_sync.proofs.Heard.{front_length}
use Rattle.distcp_sync.proofs.Spans.{own_added}
use Rattle.distcp_sync.proofs.Entered.{made_entries}
use Rattle.distcp_sync.proofs.Did.{Did}
use Rattle.distcp_sync.proofs.Begun.{DidBoth}
use Rattle.distcp_sync.proofs.Firsts.{Modifies, AreTaken, first_of, next_of, faulted_by_last, up_to_made}
use Rattle.distcp_sync.proofs.Wrote.{Wrote, claimed-append}
use Rattle.distcp_sync.proofs.CopyChain.{all_made, jobs_calls}
use Rattle.distcp_sync.proofs.Written.{calls_with}
use Rattle.distcp_sync.proofs.WrittenCalls.{positions, did_target}

-- ---- all calls of a plan may change the state

outs_modify : (root : List ℕ) (plan : Plan) (index : ℕ) (paths : List Names) → AllByRecursion Modifies (out_calls root plan index paths)
outs_modify root plan index [] = tt
outs_modify root plan index (path ∷ paths) = (refl, outs_modify root plan (index + 1) paths)

puts_modify : (root : List ℕ) (plan : Plan) (puts : List Put) → AllByRecursion Modifies (map (put_call root plan) puts)
puts_modify root plan [] = tt
puts_modify root plan (Back index to ∷ puts) = (refl, puts_modify root plan puts)
puts_modify root plan (NewDir to ∷ puts) = (refl, puts_modify root plan puts)

pages_modify : (path : List ℕ) (pages : List (List ℕ)) → AllByRecursion Modifies (map (calls.Append path) pages)
pages_modify path [] = tt
pages_modify path (page ∷ pages) = (refl, pages_modify path pages)

jobs_modify : (root : List ℕ) (bytes : CopyJob → List ℕ) (jobs : List CopyJob) → AllByRecursion Modifies (jobs_calls root bytes jobs)
jobs_modify root bytes [] = tt
jobs_modify root bytes (job ∷ jobs) =
    each-append Modifies (copy_calls root job.to (bytes job)) (jobs_calls root bytes jobs) (refl, pages_modify (text_below root job.to) (pages_of (length (bytes job)) (bytes job))) (jobs_modify root bytes jobs)

pub plan_modifies : (root : List ℕ) (plan : Plan) (bytes : CopyJob → List ℕ) → AllByRecursion Modifies (calls_with root plan bytes)
plan_modifies root plan bytes =
    each-append Modifies (move_calls root plan) (jobs_calls root bytes plan.copies ++ last_call root plan ∷ [])
    (refl, each-append Modifies (out_calls root plan 0 plan.outs) (map (put_call root plan) plan.puts) (outs_modify root plan 0 plan.outs) (puts_modify root plan plan.puts))
    (each-append Modifies (jobs_calls root bytes plan.copies) (last_call root plan ∷ []) (jobs_modify root bytes plan.copies) (refl, tt))

-- ---- over plain lists

-- what was done and what was not are the first of the claims
apart : (tells : Bool) (done : List Said) (failed : Option Said) (whole : List Call) → (front : IsFront (claimed_calls tells (calls_of (done ++ option_to_list failed))) whole) →
    claimed_calls tells (calls_of done) ++ (claimed_calls tells (calls_of (option_to_list failed)) ++ front.rest) ≡ whole
apart tells done failed whole front =
    sym (append_assoc (claimed_calls tells (calls_of done)) (claimed_calls tells (calls_of (option_to_list failed))) front.rest)
    ∙ (ap (λ (l : List Call). l ++ front.rest) (sym (claimed-append tells done (option_to_list failed))) ∙ front.all)

-- the call that was not done is the next one
next_by : (tells : Bool) (rest : List Call) (failed : Option Said) (more : List Call) → claimed_calls tells rest ≡ claimed_calls tells (calls_of (option_to_list failed)) ++ more → IfSome failed (λ last. IsNext tells rest last.call)
next_by tells rest None more is = tt
next_by tells rest (Some last) more is = next_of tells rest last.call more is

left_by : (tells : Bool) (c : CallerId) (rest : List Call) (failed : Option Said) → IfSome failed (λ last. is_ok_reply last.told.reply ≡ false) → IfSome failed (λ last. IsNext tells rest last.call) →
    AreFaulted tells rest (filter_map (entry_left c) (option_to_list failed))
left_by tells c rest None bad next = tt
left_by tells c rest (Some last) bad next = faulted_by_last tells rest c last bad next

none_left : (c : CallerId) (failed : Option Said) → failed ≡ None → filter_map (entry_left c) (option_to_list failed) ≡ []
none_left c failed none = ap (λ (o : Option Said). filter_map (entry_left c) (option_to_list o)) none

nothing_of : (tells : Bool) (rest : List Call) → claimed_calls tells rest ≡ [] → rest ≡ []
nothing_of tells [] e = refl
nothing_of tells (call ∷ rest) e = absurd (cc)

rest_none : (tells : Bool) (rest : List Call) (failed : Option Said) (more : List Call) → claimed_calls tells rest ≡ claimed_calls tells (calls_of (option_to_list failed)) ++ more → failed ≡ None → more ≡ [] → rest ≡ []
rest_none tells rest failed more is none nothing =
    nothing_of tells rest (is ∙ (ap (λ (o : Option Said). claimed_calls tells (calls_of (option_to_list o)) ++ more) none ∙ nothing))

-- ---- in a journal

module _ (ask : SyncAsk) (page : ℕ) (sides : SyncSides) (report : SyncReport) (start : SyncStart) (one two : Look) (trees : HasTrees ask page sides report start one two) where
  -- the calls that were made, with what is left of those of the plan
  pub record IsMadeSo (failed : Option Said) (last : List Made) (reach : ℕ) (nothing : Type 0) : Type 0 where
    pub made : HasMade ask page sides report start one two trees
    pub last_is : made.all.last ≡ last
    pub next : IfSome failed (λ said. IsNext sides.source_tells made.rest said.call)
    pub up_to : up_to_last made.made ≤ reach
    pub no_fault : failed ≡ None → made.faulted ≡ []
    pub no_rest : failed ≡ None → nothing → made.rest ≡ []

  module _ (If : Type 0) (source source_read source_then target target_read target_then : Known) (both : DidBoth source source_read target target_read) (around : IsAround target target_then sides.target_tells sides.target)
      (before last : List Made) (failed : Option Said) (moves_are : report.moves ≡ before ++ last) (modify : AllByRecursion Modifies (planned ask page sides report start one two trees))
      (wrote : Wrote If sides.source_tells (planned ask page sides report start one two trees) target_read target_then (before ++ (all_made report.copies ++ last)) failed) (bad_last : IfSome failed (λ said. is_ok_reply said.told.reply ≡ false)) (files : If)
      (numbered : are_numbered 0 report.copies ≡ true) (within : bad_paths (planned ask page sides report start one two trees) ≡ []) where
    abbrev tells : Bool
    tells = sides.source_tells

    abbrev c : CallerId
    c = target_read.caller

    abbrev all_calls : List Said
    all_calls = wrote.done ++ option_to_list failed

    abbrev entries_made : List Made
    entries_made = before ++ (all_made report.copies ++ last)

    abbrev behind : List Call
    behind = claimed_calls tells (calls_of (option_to_list failed)) ++ (wrote.wants files).rest

    taken : AreTaken tells (planned ask page sides report start one two trees) behind (filter_map (entry_left c) wrote.done)
    taken = first_of tells c wrote.done (planned ask page sides report start one two trees) behind wrote.well modify (apart tells wrote.done failed (claimed_calls tells (planned ask page sides report start one two trees)) (wrote.wants files))

    next : IfSome failed (λ said. IsNext tells taken.rest said.call)
    next = next_by tells taken.rest failed (wrote.wants files).rest taken.rest_is

    did : Did target target_then (filter_map place_left all_calls)
    did = did_target source source_read source_then target target_read target_then report both all_calls wrote.wrote

    stand : AreEntries sides.target.journal sides.target.span.low entries_made (filter_map (entry_left c) wrote.done ++ filter_map (entry_left c) (option_to_list failed))
    stand =
        subst (λ (l : List Made). AreEntries sides.target.journal sides.target.span.low l (filter_map (entry_left c) wrote.done ++ filter_map (entry_left c) (option_to_list failed))) (sym wrote.named)
        (subst (AreEntries sides.target.journal sides.target.span.low (filter_map (made_by c) all_calls)) (filter_map-append (entry_left c) wrote.done (option_to_list failed))
        (made_entries target_read target_then all_calls sides.target.journal sides.target.span.low wrote.wrote around.goes_on (omega (arith, around.from, front_length target.seen target_read.seen both.at_target.goes.grown))))

    pub made_so : IsMadeSo failed last (length target_then.seen) ((wrote.wants files).rest ≡ [])
    made_so = record {
      made = record {
        made = entries_made;
        all = record { before = before; last = last; moves = moves_are; all = refl };
        accepted = filter_map (entry_left c) wrote.done;
        faulted = filter_map (entry_left c) (option_to_list failed);
        entries = stand;
        own =
            own_added sides.target_tells sides.target target target_then (filter_map place_left all_calls) around did.goes did.places
            ∙ sym (positions c entries_made all_calls wrote.named);
        rest = taken.rest;
        first = taken.first;
        left = left_by tells c taken.rest failed bad_last next;
        within = λ some. within;
        copies = numbered;
      };
      last_is = refl;
      next = next;
      up_to = subst (λ (l : List Made). up_to_last l ≤ length target_then.seen) (sym wrote.named) (up_to_made c target_read target_then all_calls wrote.wrote);
      no_fault = none_left c failed;
      no_rest = λ none nothing. rest_none tells taken.rest failed (wrote.wants files).rest taken.rest_is none nothing;
    }
