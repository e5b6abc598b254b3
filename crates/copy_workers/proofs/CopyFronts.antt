-- What a copy writes is the front of what the plan has for it.
use Rattle.std.proofs.Common.{◌≡◌, inl, inr, ℕ, ◌+◌, ◌≤◌, nat_le, Bool, true, false, ◌&&◌, cond, Option, Some, Ok, List, [], ◌∷◌, ◌++◌, map, length, take, refl, ap, sym, ◌∙◌, subst, append-nil, append_assoc, arith}
use Rattle.std.specs.List.{AllByRecursion}
use Rattle.std.proofs.lemmas.List.{map-append}
use Rattle.hs_types.specs.declared.ids.InodeId.{InodeId}
use Rattle.hs_types.specs.declared.ids.SnapId.{SnapId}
use Rattle.hs_types.specs.declared.call.Call.{Call}
use Rattle.hs_types.specs.declared.call.Call.TheVariants as calls
use Rattle.hs_types.specs.declared.call.Place.{Place}
use Rattle.hs_types.specs.declared.call.Place.TheVariants as places
use Rattle.hs_plain.specs.declared.plan.CopyJob.{CopyJob}
use Rattle.hs_plain.specs.Asked.{Asked}
use Rattle.hs_plain.specs.Tree.{Tree, place_of}
use Rattle.hs_plain.specs.Reading.{is_gone, file_at, file_there}
use Rattle.hs_plain.specs.Answer.{answer, claimed}
use Rattle.hs_plain.specs.Joined.{claimed_bytes, known_state}
use Rattle.hs_plain.specs.Legal.{Said, IsLegalCall, leaves_entry, reach_of, places_rise}
use Rattle.hs_plain.specs.Plan.{pages_of, copy_calls, text_below, IsFront}
use Rattle.hs_plain.specs.Replay.{plain_after}
use Rattle.hs_plain.proofs.Paged.{keeps}
use Rattle.page_join.specs.Links.{Known}
use Rattle.page_join.specs.Made.{AreLegalBehind}
use Rattle.page_join.proofs.Chains.{made_legal}
use Rattle.copy_workers.specs.declared.copied.Made.{Made}
use Rattle.copy_workers.specs.declared.copied.Look.{Look}
use Rattle.copy_workers.specs.Copying.{filled, wanted, beginning}
use Rattle.copy_workers.specs.CopyLaws.{ReadsAt, calls_of, AreWhole, AreEnded, AreCallsOf, claimed_call, claimed_calls, ReadOf, AreFirstOfPlan, CopyIsFront, CopyOfFrozenIsFront}
use Rattle.copy_workers.proofs.Replies.{bytes_plain}
use Rattle.copy_workers.proofs.CopyPages.{ArePaged, Shows, shows, paged, pages_claimed, claimed_fits, not_gone, yes_le}

-- ---- the calls of a plan, as far as they are claimed

appends_claimed : (tells : Bool) (path : List ℕ) (pages : List (List ℕ)) → claimed_calls tells (map (calls.Append path) pages) ≡ map (calls.Append path) (map (claimed_bytes tells) pages)
appends_claimed tells path [] = refl
appends_claimed tells path (page ∷ pages) = ap (λ (l : List Call). calls.Append path (claimed_bytes tells page) ∷ l) (appends_claimed tells path pages)

abbrev made_anew : List ℕ → List (List ℕ) → List Call
made_anew path pages = calls.Create path true ∷ map (calls.Append path) pages

plan_claimed : (tells : Bool) (root : List ℕ) (job : CopyJob) (bytes : List ℕ) → claimed_calls tells (copy_calls root job.to bytes) ≡ made_anew (text_below root job.to) (pages_of (length bytes) (claimed_bytes tells bytes))
plan_claimed tells root job bytes =
    ap (λ (l : List Call). calls.Create (text_below root job.to) true ∷ l) (appends_claimed tells (text_below root job.to) (pages_of (length bytes) bytes))
    ∙ ap (made_anew (text_below root job.to)) (pages_claimed tells (length bytes) bytes)

module _ (job : CopyJob) (snap : SnapId) (root : List ℕ) (source source_then target target_then : Known) (made : List Made) (ended : Option Look) (reads writes : List Said) (bytes : List ℕ)
    (copied : AreCallsOf (text_below root job.to) (places.Frozen job.id snap) source source_then target target_then made ended reads writes) where
  abbrev path : List ℕ
  path = text_below root job.to

  abbrev there : Place
  there = places.Frozen job.id snap

  legal : AreLegalBehind source source_then.seen reads
  legal = made_legal source source_then reads copied.read

  shown : (list : List Said) → AllByRecursion (λ said. IsLegalCall source.tells source.limit source_then.seen source.caller said.seq said.call said.told) list → AllByRecursion (ReadOf source_then.seen there bytes) list →
      AllByRecursion (Shows source.tells (claimed_bytes source.tells bytes) there) list
  shown [] each of = tt
  shown (said ∷ more) each of = (shows source.tells source.limit source_then.seen source.caller there bytes said each.0 of.0, shown more each.1 of.1)

  abbrev IsInPages : Type 0
  IsInPages = ArePaged source.tells (claimed_bytes source.tells bytes) 0 (length bytes) (Some (beginning there)) reads

  in_pages : AllByRecursion (ReadOf source_then.seen there bytes) reads → IsInPages
  in_pages of = paged source.tells (claimed_bytes source.tells bytes) there reads 0 (length bytes) (claimed_fits source.tells bytes) (shown reads legal.each of) copied.pages

  -- what the pages want, and the appends of the rest, are the calls of the plan
  all_wanted : (pages : IsInPages) → claimed_calls source.tells (wanted path reads) ++ map (calls.Append path) pages.rest ≡ claimed_calls source.tells (copy_calls root job.to bytes)
  all_wanted pages =
      ap (λ (l : List Call). calls.Create path true ∷ (l ++ map (calls.Append path) pages.rest)) (appends_claimed source.tells path (filled reads))
      ∙ ap (λ (l : List Call). calls.Create path true ∷ l) (sym (map-append (calls.Append path) (map (claimed_bytes source.tells) (filled reads)) pages.rest))
      ∙ ap (made_anew path) pages.all
      ∙ sym (plan_claimed source.tells root job bytes)

  front_of : (pages : IsInPages) → IsFront (claimed_calls source.tells (calls_of writes)) (claimed_calls source.tells (copy_calls root job.to bytes))
  front_of pages = record {
    rest = claimed_calls source.tells copied.wants.rest ++ map (calls.Append path) pages.rest;
    all =
        sym (append_assoc (claimed_calls source.tells (calls_of writes)) (claimed_calls source.tells copied.wants.rest) (map (calls.Append path) pages.rest))
        ∙ ap (λ (l : List Call). l ++ map (calls.Append path) pages.rest) (sym (map-append (claimed_call source.tells) (calls_of writes) copied.wants.rest) ∙ ap (claimed_calls source.tells) copied.wants.all)
        ∙ all_wanted pages;
  }

  whole_of : IsInPages → AreWhole path there reads writes → claimed_calls source.tells (calls_of writes) ≡ claimed_calls source.tells (copy_calls root job.to bytes)
  whole_of pages whole =
      ap (claimed_calls source.tells) whole.written
      ∙ sym (append-nil (claimed_calls source.tells (wanted path reads)))
      ∙ ap (λ (l : List (List ℕ)). claimed_calls source.tells (wanted path reads) ++ map (calls.Append path) l) (sym (pages.whole whole.pages))
      ∙ all_wanted pages

  first_of_plan : AllByRecursion (ReadOf source_then.seen there bytes) reads → AreFirstOfPlan source.tells root job bytes writes ended
  first_of_plan of = record {
    front = front_of (in_pages of);
    whole = λ none. whole_of (in_pages of) (subst (AreEnded source.caller target.caller path there reads writes) none copied.end);
  }

pub copy_is_front : CopyIsFront
copy_is_front = first_of_plan

-- ---- a snapshot keeps its files

first : (a b : Bool) → (a && b) ≡ true → a ≡ true
first true b e = refl
first false b e = absurd (cc)

second : (a b : Bool) → (a && b) ≡ true → b ≡ true
second true b e = e
second false b e = absurd (cc)

reach_above : (said : Said) → said.told.position ≤ reach_of said.call said.told
reach_above said = elim (leaves_entry said.call said.told.reply) as (λ b. said.told.position ≤ said.told.position + cond b 1 0) [ true ↦ omega arith | false ↦ omega arith ]

abbrev file_in : InodeId → Tree (List ℕ) → Asked (List ℕ)
file_in id tree = file_there (place_of tree id)

module _ (source source_then : Known) (id : InodeId) (snap : SnapId) (bytes : List ℕ) (index : ℕ) (was : file_at (plain_after (take index source_then.seen)) (places.Frozen id snap) ≡ Ok bytes) where
  abbrev Legal : Said → Type 0
  Legal said = IsLegalCall source.tells source.limit source_then.seen source.caller said.seq said.call said.told

  read_of : (said : Said) → index ≤ said.told.position → Legal said → ReadsAt (places.Frozen id snap) said → ReadOf source_then.seen (places.Frozen id snap) bytes said
  read_of said behind legal asked page =
      elim (keeps (file_in id) source_then.seen index said.told.position id snap bytes behind was).gone_or_same as (λ _. file_at (known_state source_then.seen said) (places.Frozen id snap) ≡ Ok bytes) [
        | inl gone ↦ absurd (no (sym there ∙ gone))
        | inr same ↦ same.1
      ]
    where
      no : false ≡ true → ⊥
      no e = cc

      there : is_gone (known_state source_then.seen said) (places.Frozen id snap) ≡ false
      there =
          ap (is_gone (known_state source_then.seen said)) (sym asked.2)
          ∙ not_gone source.tells asked.0 (known_state source_then.seen said) said.told.reply page (legal.answered (bytes_plain said.told.reply page) ∙ ap (λ (c : Call). claimed source.tells (answer (known_state source_then.seen said) c)) asked.1)

  reads_of : (from : ℕ) (reads : List Said) → index ≤ from → places_rise from reads ≡ true → AllByRecursion Legal reads → AllByRecursion (ReadsAt (places.Frozen id snap)) reads → AllByRecursion (ReadOf source_then.seen (places.Frozen id snap) bytes) reads
  reads_of from [] behind rise each asked = tt
  reads_of from (said ∷ more) behind rise each asked =
      let here : index ≤ said.told.position = omega (arith, behind, yes_le from said.told.position (first (nat_le from said.told.position) (places_rise (reach_of said.call said.told) more) rise)) in (
        read_of said here each.0 asked.0,
        reads_of (reach_of said.call said.told) more (omega (arith, here, reach_above said)) (second (nat_le from said.told.position) (places_rise (reach_of said.call said.told) more) rise) each.1 asked.1,
      )

pub copy_of_frozen_is_front : CopyOfFrozenIsFront
copy_of_frozen_is_front job snap root source source_then target target_then made ended reads writes bytes index copied before was =
    let legal : AreLegalBehind source source_then.seen reads = made_legal source source_then reads copied.read in
    first_of_plan job snap root source source_then target target_then made ended reads writes bytes copied
    (reads_of source source_then job.id snap bytes index was (length source.seen) reads before legal.places legal.each copied.asked)
