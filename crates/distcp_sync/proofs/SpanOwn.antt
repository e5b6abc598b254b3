-- Whose the entries of a sync's span are: those that its report names are its callers', and where these meet no fault they are accepted.
use Rattle.std.proofs.Common.{◌≡◌, inl, inr, ℕ, zero, suc, ◌+◌, ◌<◌, ◌≤◌, nat_le, nat_lt, Bool, true, false, cond, ◌&&◌, Option, Some, List, [], ◌∷◌, ◌++◌, map, slice_get, refl, ap, sym, subst, ◌∙◌, arith}
use Rattle.std.specs.List.{AllByRecursion}
use Rattle.std.proofs.lemmas.Bool.Decides.{nat_tests}
use Rattle.hs_types.specs.declared.ids.CallerId.{CallerId}
use Rattle.hs_types.specs.declared.call.Call.{Call}
use Rattle.hs_types.specs.declared.journal.Entry.{Entry}
use Rattle.hs_plain.specs.Change.{is_accepted}
use Rattle.hs_plain.specs.Span.{IsInSpan, is_one_of}
use Rattle.hs_plain.specs.Premises.{SyncSide, MeetsNoFault}
use Rattle.hs_plain.proofs.ValidShapes.{none_some, same_some, true_false}
use Rattle.hs_plain.proofs.ValidLists.{In}
use Rattle.copy_workers.specs.declared.copied.Made.{Made}
use Rattle.distcp_sync.specs.Steps.{AreEntries, own_places, places_in, up_to_last, AreFaulted}

-- ---- places

abbrev taken : ℕ → ℕ → ℕ → Bool → Bool
taken low high index mine = nat_le low index && (nat_lt index high && mine)

-- a place in a span at which an entry of these callers stands
pub record IsOwn (f : ℕ → Option Entry) (callers : List CallerId) (low high place : ℕ) : Type 0 where
  pub from : low ≤ place
  pub below : place < high
  pub entry : Entry
  pub there : f place ≡ Some entry
  pub mine : is_one_of callers entry.caller ≡ true

module _ (callers : List CallerId) (f : ℕ → Option Entry) (low high : ℕ) where
  abbrev AreOwn : List ℕ → Type 0
  AreOwn places = AllByRecursion (IsOwn f callers low high) places

  own-step : (index : ℕ) (entry : Entry) (places : List ℕ) → f index ≡ Some entry → AreOwn places → (b : Bool) → taken low high index (is_one_of callers entry.caller) ≡ b → AreOwn (cond b (index ∷ places) places)
  own-step index entry places here more true is =
      let least : low ≤ index = grind (arith, nat_tests) in
      let under : index < high = grind (arith, nat_tests) in
      let its : is_one_of callers entry.caller ≡ true = grind (arith, nat_tests) in
      (record { from = least; below = under; entry = entry; there = here; mine = its }, more)
  own-step index entry places here more false is = more

  all-own : (index : ℕ) (journal : List Entry) → ((i : ℕ) → f (index + i) ≡ slice_get journal i) → AreOwn (own_places callers low high index journal)
  all-own index [] at = tt
  all-own index (entry ∷ journal) at =
      own-step index entry (own_places callers low high (index + 1) journal) here (all-own (index + 1) journal later) (taken low high index (is_one_of callers entry.caller)) refl
    where
      here : f index ≡ Some entry
      here = let same : index ≡ index + 0 = omega arith in ap f same ∙ at 0

      later : (i : ℕ) → f (index + 1 + i) ≡ slice_get journal i
      later i = let same : index + 1 + i ≡ index + suc i = omega arith in ap f same ∙ at (suc i)

-- a place that is passed over, or isn't
in-later : (index place : ℕ) (places : List ℕ) (b : Bool) → In places place → In (cond b (index ∷ places) places) place
in-later index place places true at = inr at
in-later index place places false at = at

-- each entry of the callers in the span is at one of the places
in-places : (callers : List CallerId) (low high index : ℕ) (journal : List Entry) (i : ℕ) (entry : Entry) → slice_get journal i ≡ Some entry → low ≤ index + i → index + i < high → is_one_of callers entry.caller ≡ true →
    In (own_places callers low high index journal) (index + i)
in-places callers low high index [] i entry there from below mine = absurd (none_some there)
in-places callers low high index (one ∷ journal) zero entry there from below mine =
    let its : is_one_of callers one.caller ≡ true = ap (λ (e : Entry). is_one_of callers e.caller) (same_some there) ∙ mine in
    let here : taken low high index (is_one_of callers one.caller) ≡ true = grind (arith, nat_tests, its, from, below) in
    let same : index ≡ index + 0 = omega arith in
    subst (λ b. In (cond b (index ∷ own_places callers low high (index + 1) journal) (own_places callers low high (index + 1) journal)) (index + 0)) (sym here) (inl same)
in-places callers low high index (one ∷ journal) (suc i) entry there from below mine =
    let same : index + 1 + i ≡ index + suc i = omega arith in
    in-later index (index + suc i) (own_places callers low high (index + 1) journal) (taken low high index (is_one_of callers one.caller))
    (subst (In (own_places callers low high (index + 1) journal)) same (in-places callers low high (index + 1) journal i entry there (omega (arith, from)) (omega (arith, below)) mine))

-- an entry of a sync's callers in its span
pub record IsMine (side : SyncSide) (entry : Entry) : Type 0 where
  pub index : ℕ
  pub at : IsInSpan side.journal side.span index entry
  pub mine : is_one_of side.callers entry.caller ≡ true

-- an entry in the span of one of the callers is at one of the places
pub place-there : (side : SyncSide) (index : ℕ) (entry : Entry) → IsInSpan side.journal side.span index entry → is_one_of side.callers entry.caller ≡ true → In (places_in side) index
place-there side index entry at mine =
    let same : 0 + index ≡ index = omega arith in
    subst (In (places_in side)) same (in-places side.callers side.span.low side.span.high 0 side.journal index entry at.there (omega (arith, at.from)) (omega (arith, at.below)) mine)

module _ (side : SyncSide) where
  abbrev OwnHere : ℕ → Type 0
  OwnHere place = IsOwn (slice_get side.journal) side.callers side.span.low side.span.high place

  own-here : AllByRecursion OwnHere (places_in side)
  own-here = all-own side.callers (slice_get side.journal) side.span.low side.span.high 0 side.journal (λ i. let same : 0 + i ≡ i = omega arith in ap (slice_get side.journal) same)

  named-mine : (from : ℕ) (made : List Made) (entries : List Entry) → AreEntries side.journal from made entries → AllByRecursion OwnHere (map (λ (one : Made). one.position) made) → AllByRecursion (IsMine side) entries
  named-mine from [] [] are own = tt
  named-mine from [] (entry ∷ entries) are own = absurd are
  named-mine from (one ∷ more) [] are own = absurd are
  named-mine from (one ∷ more) (entry ∷ entries) are own = (
    record {
      index = one.position;
      at = record { from = own.0.from; below = own.0.below; there = are.1 };
      mine = ap (λ (e : Entry). is_one_of side.callers e.caller) (same_some (sym are.1 ∙ own.0.there)) ∙ own.0.mine;
    },
    named-mine (one.position + 1) more entries are.4 own.1,
  )

  -- the entries that are named are the callers', in the span
  pub all-mine : (made : List Made) (entries : List Entry) → places_in side ≡ map (λ (one : Made). one.position) made → AreEntries side.journal side.span.low made entries → AllByRecursion (IsMine side) entries
  all-mine made entries own are = named-mine side.span.low made entries are (subst (AllByRecursion OwnHere) own own-here)

  last-below : (one : Made) (more : List Made) → AllByRecursion OwnHere (map (λ (one : Made). one.position) (one ∷ more)) → up_to_last (one ∷ more) ≤ side.span.high
  last-below one [] all = omega (arith, all.0.below)
  last-below one (other ∷ more) all = last-below other more all.1

  -- the last of them is in the span
  pub last-within : (made : List Made) → places_in side ≡ map (λ (one : Made). one.position) made → up_to_last made ≤ side.span.high
  last-within [] own = omega arith
  last-within (one ∷ more) own = last-below one more (subst (AllByRecursion OwnHere) own own-here)

-- ---- no fault

-- a fault contradicts that none is met
pub none-faulted : (tells : Bool) (rest : List Call) (accepted faulted : List Entry) → AllByRecursion (λ entry. is_accepted entry.kind ≡ true) (accepted ++ faulted) → AreFaulted tells rest faulted → faulted ≡ []
none-faulted tells rest (entry ∷ accepted) faulted all are = none-faulted tells rest accepted faulted all.1 are
none-faulted tells rest [] [] all are = refl
none-faulted tells rest [] (entry ∷ []) all are = absurd (true_false all.0 (ap is_accepted are.0))
none-faulted tells rest [] (entry ∷ other ∷ more) all are = absurd are

-- where no fault is met, entries of the callers are accepted
pub mine-accepted : (side : SyncSide) → MeetsNoFault side.journal side.span side.callers → (entries : List Entry) → AllByRecursion (IsMine side) entries → AllByRecursion (λ entry. is_accepted entry.kind ≡ true) entries
mine-accepted side faultless [] all = tt
mine-accepted side faultless (entry ∷ entries) all = (faultless all.0.index entry all.0.at all.0.mine, mine-accepted side faultless entries all.1)
