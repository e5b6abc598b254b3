-- What a sync's links promise are its steps, each at the end of the journal.
use Rattle.std.proofs.Common.{◌≡◌, ℕ, zero, suc, ◌+◌, ◌≤◌, nat_le, Bool, true, cond, ◌&&◌, ◌==◌, Option, Some, List, [], ◌∷◌, ◌++◌, map, length, slice_get, refl, ap, sym, ◌∙◌, subst, length-append, append_assoc, append-nil, arith}
use Rattle.std.specs.List.{list_all, AllByRecursion}
use Rattle.std.proofs.lemmas.Bool.Decides.{nat_tests}
use Rattle.std.proofs.lemmas.List.{append_cancel_left}
use Rattle.std.proofs.Math.Path.{fun_ext}
use Rattle.std.specs.Prelude.{is_some}
use Rattle.hs_types.specs.Blocks.{BlockMap}
use Rattle.hs_types.specs.Limits.{journal_limit}
use Rattle.hs_types.specs.declared.ids.CallerId.{CallerId}
use Rattle.hs_types.specs.declared.ids.Side.{Side}
use Rattle.hs_types.specs.declared.ids.Side.TheVariants.{Source, Target}
use Rattle.hs_types.specs.declared.journal.Entry.{Entry}
use Rattle.hs_plain.specs.Legal.{places_of, number_rises}
use Rattle.page_join.specs.Links.{Known}
use Rattle.namenode_write.specs.NamenodeValue.{NamenodeValue}
use Rattle.namenode_lock.specs.NodeLinks.{known_of, StaysAlone}
use Rattle.copy_workers.specs.declared.copied.Made.{Made}
use Rattle.distcp_sync.specs.declared.report.SyncJob.{SyncJob}
use Rattle.distcp_sync.specs.declared.report.SyncReport.{SyncReport}
use Rattle.distcp_sync.specs.Steps.{ended_copy}
use Rattle.distcp_sync.specs.Calls.{HasGone, IsMadeIn, IsFailedRead, AreSyncCalls, seqs_rise, faulted_at}
use Rattle.distcp_sync.specs.Around.{IsSyncedWithin}
use Rattle.script_text.specs.declared.command.Command.TheVariants as commands
use Rattle.run_output.specs.declared.ran.LogWhat.TheVariants.{Synced}
use Rattle.run_output.specs.Calls.{Kept}
use Rattle.run_output.specs.Steps.{Step, made, failed, counted, synced_on}
use Rattle.run_output.specs.Run.{caller}
use Rattle.script_runner.specs.declared.client.Client.{Client}
use Rattle.script_runner.specs.Keeping.{kept_of, next_kept}
use Rattle.script_runner.specs.InTurn.{AreStepsNext, World, world_of, knows, IsSyncedFrom, IsSyncDone, sync_run, steps_by}
use Rattle.script_runner.specs.Nodes.{StaysNode, IsCommandDone}
use Rattle.script_runner.proofs.Both.{both_first, both_second}
use Rattle.script_runner.proofs.Linked.{places-append}
use Rattle.script_runner.proofs.Stepped.{by_caller, IsOwnRest}

-- ---- entries of one caller behind a journal

there_first : (xs ys : List Entry) (e : Entry) → slice_get (xs ++ e ∷ ys) (length xs) ≡ Some e
there_first [] ys e = refl
there_first (x ∷ xs) ys e = there_first xs ys e

some_of : (a b : Entry) → Some a ≡ Some b → a ≡ b
some_of a b e = cc

-- the entry that a place tells of is the first behind
entry_first : (journal old more : List Entry) (e f : Entry) (k : ℕ) → journal ≡ old ++ e ∷ more → k ≡ length old → slice_get journal k ≡ Some f → f ≡ e
entry_first journal old more e f k whole at there =
    some_of f e (sym there ∙ ap (λ (j : List Entry). slice_get j k) whole ∙ ap (slice_get (old ++ e ∷ more)) at ∙ there_first old more e)

-- and its place the first of the caller's
places_first : (c i : ℕ) (e : Entry) (more : List Entry) → (e.caller.0 == c) ≡ true → places_of c i (e ∷ more) ≡ i ∷ places_of c (i + 1) more
places_first c i e more mine = ap (λ b. cond b (i ∷ places_of c (i + 1) more) (places_of c (i + 1) more)) mine

first_is : (k i : ℕ) (ks is : List ℕ) → k ∷ ks ≡ i ∷ is → k ≡ i
first_is k i ks is e = cc

later_are : (k i : ℕ) (ks is : List ℕ) → k ∷ ks ≡ i ∷ is → ks ≡ is
later_are k i ks is e = cc

none_first : (k : ℕ) (ks : List ℕ) → k ∷ ks ≡ [] → ⊥
none_first k ks e = cc

one_more : (old : List Entry) (e : Entry) → length old + 1 ≡ length (old ++ e ∷ [])
one_more old e = omega (arith, length-append old (e ∷ []))

-- ---- steps

-- failed reads leave the entries behind a journal, one after the other
failed_steps : (tells : Bool) (c : ℕ) (journal old more : List Entry) (ks : List ℕ) (number last : ℕ) → journal ≡ old ++ more → list_all (by_caller (λ n. n == c)) more ≡ true → ks ≡ places_of c (length old) more →
    AllByRecursion (IsFailedRead journal (caller c)) ks → nat_le number last ≡ true → AreStepsNext tells c old number (map failed ks ++ counted last ∷ []) journal last
failed_steps tells c journal old [] [] number last whole mine are each le = (le, (sym (whole ∙ append-nil old), refl))
failed_steps tells c journal old [] (k ∷ ks) number last whole mine are each le = absurd (none_first k ks are)
failed_steps tells c journal old (e ∷ more) [] number last whole mine are each le =
    absurd (none_first (length old) (places_of c (length old + 1) more) (sym (are ∙ places_first c (length old) e more (both_first (e.caller.0 == c) _ mine))))
failed_steps tells c journal old (e ∷ more) (k ∷ ks) number last whole mine are each le =
    let all : k ∷ ks ≡ length old ∷ places_of c (length old + 1) more = are ∙ places_first c (length old) e more (both_first (e.caller.0 == c) _ mine) in
    let at : k ≡ length old = first_is k (length old) ks (places_of c (length old + 1) more) all in
    let same : each.0.entry ≡ e = entry_first journal old more e each.0.entry k whole at each.0.there in (
      old ++ e ∷ [],
      record {
        entry = each.0.entry;
        of_caller = each.0.of_caller;
        kind_is = each.0.kind_is;
        cursor = each.0.cursor;
        len = each.0.len;
        call_is = each.0.call_is;
        grows = ap (λ (f : Entry). old ++ f ∷ []) (sym same);
        place = at;
      },
      failed_steps tells c journal (old ++ e ∷ []) more ks number last (whole ∙ sym (append_assoc old (e ∷ []) more)) (both_second (e.caller.0 == c) _ mine)
          (later_are k (length old) ks (places_of c (length old + 1) more) all ∙ ap (λ n. places_of c n more) (one_more old e)) each.1 le,
    )

-- what a sync made are the entries behind a journal, one after the other
made_steps : (tells : Bool) (c : ℕ) (journal old more : List Entry) (ms : List Made) (number last : ℕ) → journal ≡ old ++ more → list_all (by_caller (λ n. n == c)) more ≡ true → map (λ one. one.position) ms ≡ places_of c (length old) more →
    AllByRecursion (IsMadeIn journal (caller c)) ms → seqs_rise number last ms ≡ true → AreStepsNext tells c old number (map made ms ++ counted last ∷ []) journal last
made_steps tells c journal old [] [] number last whole mine are each rise = (rise, (sym (whole ∙ append-nil old), refl))
made_steps tells c journal old [] (m ∷ ms) number last whole mine are each rise = absurd (none_first m.position (map (λ one. one.position) ms) are)
made_steps tells c journal old (e ∷ more) [] number last whole mine are each rise =
    absurd (none_first (length old) (places_of c (length old + 1) more) (sym (are ∙ places_first c (length old) e more (both_first (e.caller.0 == c) _ mine))))
made_steps tells c journal old (e ∷ more) (m ∷ ms) number last whole mine are each rise =
    let all : m.position ∷ map (λ one. one.position) ms ≡ length old ∷ places_of c (length old + 1) more = are ∙ places_first c (length old) e more (both_first (e.caller.0 == c) _ mine) in
    let at : m.position ≡ length old = first_is m.position (length old) (map (λ one. one.position) ms) (places_of c (length old + 1) more) all in
    let same : each.0.entry ≡ e = entry_first journal old more e each.0.entry m.position whole at each.0.there in (
      old ++ e ∷ [],
      record {
        entry = each.0.entry;
        of_caller = each.0.of_caller;
        caller_is = each.0.caller_is;
        seq_is = each.0.seq_is;
        grows = ap (λ (f : Entry). old ++ f ∷ []) (sym same);
        place = at;
        rises = both_first (number_rises number m.seq) _ rise;
      },
      made_steps tells c journal (old ++ e ∷ []) more ms m.seq last (whole ∙ sym (append_assoc old (e ∷ []) more)) (both_second (e.caller.0 == c) _ mine)
          (later_are m.position (length old) (map (λ one. one.position) ms) (places_of c (length old + 1) more) all ∙ ap (λ n. places_of c n more) (one_more old e)) each.1 (both_second (number_rises number m.seq) _ rise),
    )

-- the places that were added are those behind
added_behind : (c : ℕ) (old rest new : List Entry) (ks : List ℕ) → new ≡ old ++ rest → places_of c 0 new ≡ places_of c 0 old ++ ks → ks ≡ places_of c (length old) rest
added_behind c old rest new ks whole added =
    append_cancel_left (places_of c 0 old) ks (places_of c (length old) rest)
    (sym added ∙ ap (places_of c 0) whole ∙ places-append c 0 old rest ∙ ap (λ n. places_of c 0 old ++ places_of c n rest) {x = 0 + length old} {y = length old} (omega arith))

le_so : (a b : ℕ) → a ≤ b → nat_le a b ≡ true
le_so a b e = grind (arith, nat_tests)

-- ---- a sync

-- what a link knows after calls
pub then_known : (tells : Bool) (c number : ℕ) (journal : List Entry) (old new : Known) → old ≡ knows tells c number journal → HasGone old new → new ≡ knows tells c new.calls new.seen
then_known tells c number journal old new is goes = goes.same ∙ ap (λ (k : Known). record k { calls = new.calls; seen = new.seen }) is

sync_known : (st dt : Bool) (c : ℕ) (old new : World) (job : SyncJob) (report : SyncReport) →
    AreSyncCalls (knows st c old.source_calls old.source) (knows st c new.source_calls new.source) (knows dt c old.target_calls old.target) (knows dt c new.target_calls new.target) report →
    IsSyncedFrom st dt c old new job report → IsOwnRest c old.source new.source → IsOwnRest c old.target new.target → IsSyncDone st dt c old new job report
sync_known st dt c old new job report calls within source_rest target_rest = record {
  made = calls.made;
  all = calls.all;
  source =
      failed_steps st c new.source old.source source_rest.0 (faulted_at (ended_copy report.copies)) old.source_calls new.source_calls source_rest.1 source_rest.2
      (added_behind c old.source source_rest.0 new.source (faulted_at (ended_copy report.copies)) source_rest.1 calls.source_places) calls.failed (le_so old.source_calls new.source_calls calls.source_goes.counted);
  target =
      made_steps dt c new.target old.target target_rest.0 calls.made old.target_calls new.target_calls target_rest.1 target_rest.2
      (added_behind c old.target target_rest.0 new.target (map (λ one. one.position) calls.made) target_rest.1 calls.target_places) calls.entered calls.numbers;
  within = within;
}

-- a sync through two links of one caller that have their namenodes alone
pub sync_done : (st dt : Bool) (c : ℕ) (old new : World) (job : SyncJob) (report : SyncReport) (source source_then target target_then : Known) →
    source ≡ knows st c old.source_calls old.source → source_then ≡ knows st c new.source_calls new.source → target ≡ knows dt c old.target_calls old.target → target_then ≡ knows dt c new.target_calls new.target →
    AreSyncCalls source source_then target target_then report → IsSyncedWithin source source_then target target_then job report → IsOwnRest c old.source new.source → IsOwnRest c old.target new.target →
    IsSyncDone st dt c old new job report
sync_done st dt c old new job report source source_then target target_then is_source is_source_then is_target is_target_then calls within source_rest target_rest =
    sync_known st dt c old new job report
    (subst (λ (k : Known). AreSyncCalls (knows st c old.source_calls old.source) (knows st c new.source_calls new.source) (knows dt c old.target_calls old.target) k report) is_target_then
    (subst (λ (k : Known). AreSyncCalls (knows st c old.source_calls old.source) (knows st c new.source_calls new.source) k target_then report) is_target
    (subst (λ (k : Known). AreSyncCalls (knows st c old.source_calls old.source) k target target_then report) is_source_then
    (subst (λ (k : Known). AreSyncCalls k source_then target target_then report) is_source calls))))
    (subst (λ (k : Known). IsSyncedWithin (knows st c old.source_calls old.source) (knows st c new.source_calls new.source) (knows dt c old.target_calls old.target) k job report) is_target_then
    (subst (λ (k : Known). IsSyncedWithin (knows st c old.source_calls old.source) (knows st c new.source_calls new.source) k target_then job report) is_target
    (subst (λ (k : Known). IsSyncedWithin (knows st c old.source_calls old.source) k target target_then job report) is_source_then
    (subst (λ (k : Known). IsSyncedWithin k source_then target target_then job report) is_source within))))
    source_rest target_rest

-- ---- two namenodes

module _ {S : Type 0} (blocks : S → Option BlockMap) (faults : S → ℕ) (caller later other still : CallerId) (a next b last : ℕ) (source source_then target target_then : NamenodeValue S) (job : SyncJob) (report : SyncReport) where
  -- what both links then have is a sync's
  pub sync_ran : source.limit ≡ journal_limit → target.limit ≡ journal_limit → other ≡ caller → StaysAlone faults caller later source source_then → StaysAlone faults other still target target_then →
      AreSyncCalls (known_of blocks caller a source) (known_of blocks later next source_then) (known_of blocks other b target) (known_of blocks still last target_then) report →
      IsSyncedWithin (known_of blocks caller a source) (known_of blocks later next source_then) (known_of blocks other b target) (known_of blocks still last target_then) job report →
      IsSyncDone (is_some (blocks source.store)) (is_some (blocks target.store)) caller.0 (world_of source.entries target.entries a b) (world_of source_then.entries target_then.entries next last) job report
  sync_ran usual_source usual_target same source_stays target_stays calls within =
      let st : Bool = is_some (blocks source.store) in
      let dt : Bool = is_some (blocks target.store) in
      let c : ℕ = caller.0 in
      let is_source : known_of blocks caller a source ≡ knows st c a source.entries = ap (λ n. record { caller = caller; calls = a; limit = n; tells = st; seen = source.entries }) usual_source in
      let is_target : known_of blocks other b target ≡ knows dt c b target.entries =
      ap (λ (k : CallerId). record { caller = k; calls = b; limit = target.limit; tells = dt; seen = target.entries }) same ∙ ap (λ n. record { caller = caller; calls = b; limit = n; tells = dt; seen = target.entries }) usual_target in
      sync_done st dt c (world_of source.entries target.entries a b) (world_of source_then.entries target_then.entries next last) job report
      (known_of blocks caller a source) (known_of blocks later next source_then) (known_of blocks other b target) (known_of blocks still last target_then)
      is_source (then_known st c a source.entries (known_of blocks caller a source) (known_of blocks later next source_then) is_source calls.source_goes)
      is_target (then_known dt c b target.entries (known_of blocks other b target) (known_of blocks still last target_then) is_target calls.target_goes) calls within
      (source_stays.own.more, source_stays.own.grown, source_stays.own.own)
      (target_stays.own.more, target_stays.own.grown, subst (λ (k : CallerId). list_all (by_caller (λ n. n == k.0)) target_stays.own.more ≡ true) same target_stays.own.own)

-- what stays of a namenode over a link's calls
pub gone_stays : {S : Type 0} (blocks : S → Option BlockMap) (faults : S → ℕ) (caller later : CallerId) (a next : ℕ) (old new : NamenodeValue S) → StaysAlone faults caller later old new → HasGone (known_of blocks caller a old) (known_of blocks later next new) → StaysNode blocks faults old new
gone_stays blocks faults caller later a next old new stays goes = record { limit = ap (λ (k : Known). k.limit) goes.same; tells = ap (λ (k : Known). k.tells) goes.same; counted = stays.counted }

-- ---- the command

-- a sync keeps the cursors
pub kept_still : (page : ℕ) (old new : Client) → new.source.cursors ≡ old.source.cursors → new.target.cursors ≡ old.target.cursors → kept_of page new ≡ kept_of page old
kept_still page old new source target = fun_ext (λ s. by s)
  where
    by : (s : Side) → kept_of page new s ≡ kept_of page old s
    by Source = ap (next_kept page) source
    by Target = ap (next_kept page) target

pub sync_command : (st dt : Bool) (page c : ℕ) (old new : World) (kept now : Kept) (source target from to : List ℕ) (report : SyncReport) → now ≡ kept →
    IsSyncDone st dt c old new (record { source_root = source; target_root = target; from = from; to = to; page = page }) report → IsCommandDone st dt page c old new kept now (commands.Sync source target from to) (Synced report)
sync_command st dt page c old new kept now source target from to report keeps done = record {
  said = [];
  synced = Some (sync_run new report done.made);
  calls = refl;
  syncs = done.all;
  made = record {
    source = subst (λ (steps : List Step). AreStepsNext st c old.source old.source_calls steps new.source new.source_calls) (sym (append-nil (synced_on Source (Some (sync_run new report done.made))))) done.source;
    target = subst (λ (steps : List Step). AreStepsNext dt c old.target old.target_calls steps new.target new.target_calls) (sym (append-nil (synced_on Target (Some (sync_run new report done.made))))) done.target;
    within = done.within;
  };
  logs = λ line. refl;
  keeps = keeps;
}
