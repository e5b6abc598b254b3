-- The entries of a sync's callers in its span: they are those that its report names, and their calls are the first of its plan's.
use Rattle.std.proofs.Common.{◌≡◌, ℕ, zero, suc, ◌+◌, ◌-◌, ◌<◌, ◌≤◌, nat_le, nat_lt, Bool, true, false, cond, ◌&&◌, Option, Some, List, [], ◌∷◌, ◌++◌, map, take, drop, slice_get, refl, ap, sym, subst, ◌∙◌, arith}
use Rattle.std.specs.List.{filter, filter_map, cons_option, AllByRecursion}
use Rattle.std.proofs.lemmas.Bool.Decides.{nat_tests}
use Rattle.hs_types.specs.declared.ids.CallerId.{CallerId}
use Rattle.hs_types.specs.declared.call.Call.{Call}
use Rattle.hs_types.specs.declared.call.Call.TheVariants as calls
use Rattle.hs_types.specs.declared.journal.Entry.{Entry}
use Rattle.hs_plain.specs.Span.{is_one_of}
use Rattle.hs_plain.specs.Premises.{SyncSide}
use Rattle.plan_laws.specs.Steps.{own_calls}
use Rattle.plan_laws.specs.Undisturbed.{entries_between, is_entry_of, entries_up_to}
use Rattle.copy_workers.specs.CopyLaws.{claimed_call}
use Rattle.copy_workers.specs.declared.copied.Made.{Made}
use Rattle.distcp_sync.specs.Steps.{AreEntries, own_places, places_in, up_to_last, IsNext, AreFirst}

-- ---- calls of which all is claimed

-- where the store tells its bytes, all of a call is claimed
claimed-all : (call : Call) → claimed_call true call ≡ call
claimed-all (calls.Append path bytes) = refl
claimed-all call = refl

-- the next call is the first of those that are left
pub next-is : (rest : List Call) (call : Call) → IsNext true rest call → (more : List Call) × (rest ≡ call ∷ more)
next-is [] call next = absurd next
next-is (one ∷ more) call next = (more, ap (λ (c : Call). c ∷ more) (sym (claimed-all one) ∙ (sym next ∙ claimed-all call)))

-- the calls of accepted entries, and those that are left, are all that were planned
pub first-calls : (planned : List Call) (accepted : List Entry) (rest : List Call) → AreFirst true planned accepted rest → map (λ (entry : Entry). entry.call) accepted ++ rest ≡ planned
first-calls planned [] rest first = first
first-calls planned (entry ∷ entries) rest first =
    ap (λ (c : Call). c ∷ (map (λ (entry : Entry). entry.call) entries ++ rest)) (sym (claimed-all entry.call) ∙ (first.4 ∙ claimed-all first.0))
    ∙ (ap (λ (cs : List Call). first.0 ∷ cs) (first-calls first.1 entries rest first.5) ∙ sym first.2)

-- ---- places of entries

-- the entries at places are those that are named
named-entries : (journal : List Entry) (from : ℕ) (made : List Made) (entries : List Entry) → AreEntries journal from made entries → filter_map (slice_get journal) (map (λ (one : Made). one.position) made) ≡ entries
named-entries journal from [] [] are = refl
named-entries journal from [] (entry ∷ entries) are = absurd are
named-entries journal from (one ∷ more) [] are = absurd are
named-entries journal from (one ∷ more) (entry ∷ entries) are =
    ap (λ (o : Option Entry). cons_option o (filter_map (slice_get journal) (map (λ (one : Made). one.position) more))) are.1
    ∙ ap (λ (es : List Entry). entry ∷ es) (named-entries journal (one.position + 1) more entries are.4)

-- each place is below the end of the last
abbrev pub AreBelow : ℕ → List ℕ → Type 0
AreBelow end places = AllByRecursion (λ place. place < end) places

first-below : (journal : List Entry) (from : ℕ) (one : Made) (more : List Made) (entries : List Entry) → AreEntries journal from (one ∷ more) entries → one.position < up_to_last (one ∷ more)
first-below journal from one more [] are = absurd are
first-below journal from one [] (entry ∷ entries) are = omega arith
first-below journal from one (other ∷ more) (entry ∷ []) are = absurd are.4
first-below journal from one (other ∷ more) (entry ∷ second ∷ entries) are =
    let above : one.position + 1 ≤ other.position = are.4.0 in
    omega (arith, above, first-below journal (one.position + 1) other more (second ∷ entries) are.4)

pub all-below : (journal : List Entry) (from : ℕ) (made : List Made) (entries : List Entry) → AreEntries journal from made entries → AreBelow (up_to_last made) (map (λ (one : Made). one.position) made)
all-below journal from [] entries are = tt
all-below journal from (one ∷ more) [] are = absurd are
all-below journal from (one ∷ []) (entry ∷ entries) are = (first-below journal from one [] (entry ∷ entries) are, tt)
all-below journal from (one ∷ other ∷ more) (entry ∷ entries) are =
    (first-below journal from one (other ∷ more) (entry ∷ entries) are, all-below journal (one.position + 1) (other ∷ more) entries are.4)

below-more : (low high : ℕ) (places : List ℕ) → low ≤ high → AreBelow low places → AreBelow high places
below-more low high [] within all = tt
below-more low high (place ∷ places) within all = (omega (arith, within, all.0), below-more low high places within all.1)

-- ---- the entries of callers in a part of a journal

abbrev taken : ℕ → ℕ → ℕ → Bool → Bool
taken low high index mine = nat_le low index && (nat_lt index high && mine)

-- one index more, where no place is at an end or behind it
cut_step : (low end high index : ℕ) (mine : Bool) (ends wholes : List ℕ) → end ≤ high → (AreBelow end wholes → ends ≡ wholes) → (b : Bool) → taken low high index mine ≡ b → AreBelow end (cond b (index ∷ wholes) wholes) →
    cond (taken low end index mine) (index ∷ ends) ends ≡ cond b (index ∷ wholes) wholes
cut_step low end high index mine ends wholes within next true is below =
    let here : index < end = below.0 in
    let too : taken low end index mine ≡ true = grind (arith, nat_tests, is, here) in
    ap (λ b. cond b (index ∷ ends) ends) too ∙ ap (λ (ks : List ℕ). index ∷ ks) (next below.1)
cut_step low end high index mine ends wholes within next false is below =
    let too : taken low end index mine ≡ false = grind (arith, nat_tests, is, within) in
    ap (λ b. cond b (index ∷ ends) ends) too ∙ next below

-- where no place is at an end or behind it, up to there are all
cut-at : (callers : List CallerId) (low end high index : ℕ) (journal : List Entry) → end ≤ high → AreBelow end (own_places callers low high index journal) →
    own_places callers low end index journal ≡ own_places callers low high index journal
cut-at callers low end high index [] within below = refl
cut-at callers low end high index (entry ∷ journal) within below =
    cut_step low end high index (is_one_of callers entry.caller) (own_places callers low end (index + 1) journal) (own_places callers low high (index + 1) journal) within
    (cut-at callers low end high (index + 1) journal within) (taken low high index (is_one_of callers entry.caller)) refl below

-- the entries of callers from an index up to another are those at their places
module _ (callers : List CallerId) (f : ℕ → Option Entry) (low high : ℕ) where
  none-left : (n m : ℕ) → filter (is_entry_of callers) (take n (drop m [])) ≡ []
  none-left zero m = refl
  none-left (suc n) zero = refl
  none-left (suc n) (suc m) = refl

  abbrev Window : ℕ → List Entry → Type 0
  Window index journal = filter (is_entry_of callers) (take ((high - index) - (low - index)) (drop (low - index) journal)) ≡ filter_map f (own_places callers low high index journal)

  window : (index : ℕ) (journal : List Entry) → ((i : ℕ) → f (index + i) ≡ slice_get journal i) → Window index journal
  window index [] at = none-left ((high - index) - (low - index)) (low - index)
  window index (entry ∷ journal) at = by (window (index + 1) journal later) (nat_le low index) refl (nat_lt index high) refl
    where
      later : (i : ℕ) → f (index + 1 + i) ≡ slice_get journal i
      later i = let same : index + 1 + i ≡ index + suc i = omega arith in ap f same ∙ at (suc i)

      here : f index ≡ Some entry
      here = let same : index ≡ index + 0 = omega arith in ap f same ∙ at 0

      -- one entry that is in the part
      one : (b : Bool) → is_entry_of callers entry ≡ b → (rest : List Entry) (places : List ℕ) → filter (is_entry_of callers) rest ≡ filter_map f places →
          cond b (entry ∷ filter (is_entry_of callers) rest) (filter (is_entry_of callers) rest) ≡ filter_map f (cond b (index ∷ places) places)
      one true is rest places same = ap (λ (es : List Entry). entry ∷ es) same ∙ ap (λ (o : Option Entry). cons_option o (filter_map f places)) (sym here)
      one false is rest places same = same

      by : Window (index + 1) journal → (a : Bool) → nat_le low index ≡ a → (b : Bool) → nat_lt index high ≡ b → Window index (entry ∷ journal)
      by more false before b is =
          let above : index < low = grind (arith, nat_tests) in
          let dropped : low - index ≡ suc (low - (index + 1)) = omega (arith, above) in
          let same : (high - index) - (low - index) ≡ (high - (index + 1)) - (low - (index + 1)) = omega (arith, above) in
          let none : taken low high index (is_one_of callers entry.caller) ≡ false = grind (arith, nat_tests) in
          ap (λ n. filter (is_entry_of callers) (take n (drop (low - index) (entry ∷ journal)))) same
          ∙ (ap (λ n. filter (is_entry_of callers) (take ((high - (index + 1)) - (low - (index + 1))) (drop n (entry ∷ journal)))) dropped
          ∙ (more ∙ ap (λ b. filter_map f (cond b (index ∷ own_places callers low high (index + 1) journal) (own_places callers low high (index + 1) journal))) (sym none)))
      by more true from false past =
          let end : high ≤ index = grind (arith, nat_tests) in
          let nothing : (high - index) - (low - index) ≡ 0 = omega (arith, end) in
          let none : taken low high index (is_one_of callers entry.caller) ≡ false = grind (arith, nat_tests) in
          let nor : (high - (index + 1)) - (low - (index + 1)) ≡ 0 = omega (arith, end) in
          ap (λ n. filter (is_entry_of callers) (take n (drop (low - index) (entry ∷ journal)))) nothing
          ∙ (ap (λ n. filter (is_entry_of callers) (take n (drop (low - (index + 1)) journal))) (sym nor)
          ∙ (more ∙ ap (λ b. filter_map f (cond b (index ∷ own_places callers low high (index + 1) journal) (own_places callers low high (index + 1) journal))) (sym none)))
      by more true from true below =
          let under : index < high = grind (arith, nat_tests) in
          let least : low ≤ index = grind (arith, nat_tests) in
          let dropped : low - index ≡ 0 = omega (arith, least) in
          let still : low - (index + 1) ≡ 0 = omega (arith, least) in
          let first : (high - index) - (low - index) ≡ suc (high - (index + 1)) = omega (arith, under, least) in
          let next : (high - (index + 1)) - (low - (index + 1)) ≡ high - (index + 1) = omega (arith, least) in
          let mine : taken low high index (is_one_of callers entry.caller) ≡ is_one_of callers entry.caller = ap (λ a. a && (nat_lt index high && is_one_of callers entry.caller)) from ∙ ap (λ a. a && is_one_of callers entry.caller) below in
          let rest : filter (is_entry_of callers) (take (high - (index + 1)) journal) ≡ filter_map f (own_places callers low high (index + 1) journal) =
          ap (λ n. filter (is_entry_of callers) (take n journal)) (sym next)
          ∙ (ap (λ n. filter (is_entry_of callers) (take ((high - (index + 1)) - (low - (index + 1))) (drop n journal))) (sym still) ∙ more) in
          ap (λ n. filter (is_entry_of callers) (take n (drop (low - index) (entry ∷ journal)))) first
          ∙ (ap (λ n. filter (is_entry_of callers) (take (suc (high - (index + 1))) (drop n (entry ∷ journal)))) dropped
          ∙ (one (is_entry_of callers entry) refl (take (high - (index + 1)) journal) (own_places callers low high (index + 1) journal) rest
          ∙ ap (λ b. filter_map f (cond b (index ∷ own_places callers low high (index + 1) journal) (own_places callers low high (index + 1) journal))) (sym mine)))

-- the callers' entries from an index up to another, by their places
entries-at : (callers : List CallerId) (low high : ℕ) (journal : List Entry) → filter (is_entry_of callers) (entries_between low high journal) ≡ filter_map (slice_get journal) (own_places callers low high 0 journal)
entries-at callers low high journal =
    let l : low ≡ low - 0 = omega arith in
    let h : high - low ≡ (high - 0) - (low - 0) = omega arith in
    ap (λ n. filter (is_entry_of callers) (take n (drop low journal))) h
    ∙ (ap (λ n. filter (is_entry_of callers) (take ((high - 0) - (low - 0)) (drop n journal))) l
    ∙ window callers (slice_get journal) low high 0 journal (λ i. let same : 0 + i ≡ i = omega arith in ap (slice_get journal) same))

-- the callers' entries, from the beginning of the span up to an index behind the last of them, are those that are named
pub span-entries : (side : SyncSide) (end : ℕ) (made : List Made) (entries : List Entry) → places_in side ≡ map (λ (one : Made). one.position) made → AreEntries side.journal side.span.low made entries →
    up_to_last made ≤ end → end ≤ side.span.high → filter (is_entry_of side.callers) (entries_up_to side end) ≡ entries
span-entries side end made entries own are behind within =
    let below : AreBelow end (places_in side) = subst (AreBelow end) (sym own) (below-more (up_to_last made) end (map (λ (one : Made). one.position) made) behind (all-below side.journal side.span.low made entries are)) in
    entries-at side.callers side.span.low end side.journal
    ∙ (ap (filter_map (slice_get side.journal)) (cut-at side.callers side.span.low end side.span.high 0 side.journal within below ∙ own)
    ∙ named-entries side.journal side.span.low made entries are)

-- and their calls are those of the entries that are named
pub span-calls : (side : SyncSide) (end : ℕ) (made : List Made) (entries : List Entry) → places_in side ≡ map (λ (one : Made). one.position) made → AreEntries side.journal side.span.low made entries →
    up_to_last made ≤ end → end ≤ side.span.high → own_calls (is_entry_of side.callers) (entries_up_to side end) ≡ map (λ (entry : Entry). entry.call) entries
span-calls side end made entries own are behind within = ap (map (λ (entry : Entry). entry.call)) (span-entries side end made entries own are behind within)
