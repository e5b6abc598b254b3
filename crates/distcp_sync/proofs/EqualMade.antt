-- A sync that made all calls of its plan: just behind the last of them, the trees are equal.
use Rattle.std.proofs.Common.{◌≡◌, ℕ, zero, suc, ◌+◌, ◌-◌, ◌<◌, ◌≤◌, Bool, true, false, cond, Some, Ok, List, [], ◌∷◌, ◌++◌, map, take, drop, slice_get, refl, ap, sym, subst, ◌∙◌, arith}
use Rattle.std.specs.List.{filter, AllByRecursion}
use Rattle.hs_types.specs.Names.{Names}
use Rattle.hs_types.specs.declared.ids.CallerId.{CallerId}
use Rattle.hs_types.specs.declared.call.Call.{Call}
use Rattle.hs_types.specs.declared.journal.Entry.{Entry}
use Rattle.hs_plain.specs.Tree.{subtree}
use Rattle.hs_plain.specs.Modifying.{live_path}
use Rattle.hs_plain.specs.Replay.{plain_after}
use Rattle.hs_plain.specs.Change.{is_accepted}
use Rattle.hs_plain.specs.Premises.{SyncAsk, SyncSide, IsUndisturbed, MeetsNoFault, state_before}
use Rattle.hs_plain.specs.Plan.{AreEqual, plan_calls, bad_paths}
use Rattle.hs_plain.proofs.ValidShapes.{none_some, same_some, true_false}
use Rattle.hs_plain.proofs.PlanCalls.{in_turn_are_merged}
use Rattle.plan_laws.specs.Undisturbed.{AreWithinLimit, IsUnderWay, entries_between, entries_up_to, is_entry_of, plan_begun}
use Rattle.plan_laws.proofs.UnderWay.{way-equal}
use Rattle.copy_workers.specs.declared.copied.Made.{Made}
use Rattle.distcp_sync.specs.Steps.{AreEntries, AreFirst, places_in, up_to_last}
use Rattle.distcp_sync.proofs.SpanCalls.{all-below, first-calls, span-entries}
use Rattle.distcp_sync.proofs.SpanOwn.{last-within}

-- ---- accepted entries

-- entries with the first calls of a plan are accepted
all-accepted : (planned : List Call) (accepted : List Entry) (rest : List Call) → AreFirst true planned accepted rest → AllByRecursion (λ entry. is_accepted entry.kind ≡ true) accepted
all-accepted planned [] rest first = tt
all-accepted planned (entry ∷ entries) rest first = (ap is_accepted first.3, all-accepted first.1 entries rest first.5)

-- what holds of those that pass a test
kept-have : (own : Entry → Bool) (P : Entry → Type 0) (entries : List Entry) → AllByRecursion P (filter own entries) → AllByRecursion (λ entry. own entry ≡ true → P entry) entries
kept-have own P [] all = tt
kept-have own P (entry ∷ entries) all = by (own entry) refl (kept-have own P entries) all
  where
    by : (b : Bool) → own entry ≡ b → (AllByRecursion P (filter own entries) → AllByRecursion (λ entry. own entry ≡ true → P entry) entries) →
        AllByRecursion P (cond b (entry ∷ filter own entries) (filter own entries)) → AllByRecursion (λ entry. own entry ≡ true → P entry) (entry ∷ entries)
    by true is more all = (λ _. all.0, more all.1)
    by false is more all = (λ own. absurd (true_false own is), more all)

-- what holds of each holds of the one at an index
at-index : (P : Entry → Type 0) (entries : List Entry) (index : ℕ) (entry : Entry) → AllByRecursion P entries → slice_get entries index ≡ Some entry → P entry
at-index P [] index entry all there = absurd (none_some there)
at-index P (one ∷ entries) zero entry all there = subst P (same_some there) all.0
at-index P (one ∷ entries) (suc index) entry all there = at-index P entries index entry all.1 there

-- what stands in the front of a list
get-front : (n i : ℕ) (entries : List Entry) → i < n → slice_get (take n entries) i ≡ slice_get entries i
get-front zero i entries within = absurd (omega (arith, within))
get-front (suc n) i [] within = refl
get-front (suc n) zero (entry ∷ entries) within = refl
get-front (suc n) (suc i) (entry ∷ entries) within = get-front n i entries (omega (arith, within))

-- what stands behind the front of a list
get-behind : (n i : ℕ) (entries : List Entry) → slice_get (drop n entries) i ≡ slice_get entries (n + i)
get-behind zero i entries = let same : i ≡ 0 + i = omega arith in ap (slice_get entries) same
get-behind (suc n) i [] = refl
get-behind (suc n) i (entry ∷ entries) = let same : suc (n + i) ≡ suc n + i = omega arith in get-behind n i entries ∙ ap (slice_get (entry ∷ entries)) same

-- what stands between two indexes of a journal
get-between : (low end index : ℕ) (journal : List Entry) → low ≤ index → index < end → slice_get (entries_between low end journal) (index - low) ≡ slice_get journal index
get-between low end index journal from below =
    let same : low + (index - low) ≡ index = omega (arith, from) in
    get-front (end - low) (index - low) (drop low journal) (omega (arith, from, below)) ∙ (get-behind low (index - low) journal ∙ ap (slice_get journal) same)

-- where the entries of callers are accepted, they meet no fault
accepted-between : (callers : List CallerId) (low end : ℕ) (journal : List Entry) → AllByRecursion (λ entry. is_accepted entry.kind ≡ true) (filter (is_entry_of callers) (entries_between low end journal)) →
    MeetsNoFault journal (record { low = low; high = end }) callers
accepted-between callers low end journal all index entry at own =
    at-index (λ entry. is_entry_of callers entry ≡ true → is_accepted entry.kind ≡ true) (entries_between low end journal) (index - low) entry
    (kept-have (is_entry_of callers) (λ entry. is_accepted entry.kind ≡ true) (entries_between low end journal) all)
    (get-between low end index journal at.from at.below ∙ at.there) own

-- the end of the last entry is not before the span
end-from : (journal : List Entry) (low : ℕ) (made : List Made) (entries : List Entry) → (made ≡ [] → ⊥) → AreEntries journal low made entries → low ≤ up_to_last made
end-from journal low [] entries some are = absurd (some refl)
end-from journal low (one ∷ more) [] some are = absurd are
end-from journal low (one ∷ more) (entry ∷ entries) some are =
    let from : low ≤ one.position = are.0 in
    let last : one.position < up_to_last (one ∷ more) = (all-below journal low (one ∷ more) (entry ∷ entries) are).0 in
    omega (arith, from, last)

-- an undisturbed sync whose entries in its span have all calls of its plan
pub all-equal : (ask : SyncAsk) (source target : SyncSide) → AreWithinLimit source target → (undisturbed : IsUndisturbed ask source target) → (made : List Made) (accepted : List Entry) → (made ≡ [] → ⊥) →
    AreEntries target.journal target.span.low made accepted → places_in target ≡ map (λ one. one.position) made →
    AreFirst true (plan_calls ask.target_root (plan_begun ask (state_before source) (state_before target) undisturbed.begins) undisturbed.begins.to.tree) accepted [] →
    bad_paths (plan_calls ask.target_root (plan_begun ask (state_before source) (state_before target) undisturbed.begins) undisturbed.begins.to.tree) ≡ [] →
    (root : Names) → live_path ask.target_root ≡ Ok root → AreEqual undisturbed.begins.to.tree (subtree (plain_after (take (up_to_last made) target.journal)).tree root)
all-equal ask source target limits undisturbed made accepted some are own first paths =
    let end : ℕ = up_to_last made in
    let within : end ≤ target.span.high = last-within target made own in
    let planned : List Call = plan_calls ask.target_root (plan_begun ask (state_before source) (state_before target) undisturbed.begins) undisturbed.begins.to.tree in
    let entries : filter (is_entry_of target.callers) (entries_up_to target end) ≡ accepted = span-entries target end made accepted own are (omega arith) within in
    let way : IsUnderWay ask source target end = record {
      limits = limits;
      undisturbed = undisturbed;
      paths = paths;
      calls = planned;
      are_calls = in_turn_are_merged ask.target_root (plan_begun ask (state_before source) (state_before target) undisturbed.begins) undisturbed.begins.to.tree;
      made = record {
        from = end-from target.journal target.span.low made accepted some are;
        within = within;
        rest = [];
        own = ap (λ (es : List Entry). map (λ (entry : Entry). entry.call) es ++ []) entries ∙ first-calls planned accepted [] first;
        accepted = accepted-between target.callers target.span.low end target.journal (subst (AllByRecursion (λ entry. is_accepted entry.kind ≡ true)) (sym entries) (all-accepted planned accepted [] first));
      };
    } in
    way-equal ask source target end way refl
