-- An undisturbed sync that is under way: its calls were answered Ok, the next one would be, and with all of them the trees are equal.
use Rattle.std.proofs.Common.{◌≡◌, ℕ, zero, suc, ◌+◌, ◌-◌, ◌<◌, ◌≤◌, Bool, true, false, Some, Ok, List, [], ◌∷◌, ◌++◌, take, drop, refl, ap, sym, subst, ◌∙◌, arith}
use Rattle.std.specs.Prelude.{slice_get}
use Rattle.std.specs.List.{AllByRecursion}
use Rattle.hs_types.specs.Names.{Names}
use Rattle.hs_types.specs.declared.call.Call.{Call}
use Rattle.hs_types.specs.declared.journal.Entry.{Entry}
use Rattle.hs_plain.specs.declared.state.State.{State}
use Rattle.hs_plain.specs.Files.{plain_files}
use Rattle.hs_plain.specs.Tree.{Tree, subtree}
use Rattle.hs_plain.specs.Modifying.{live_path}
use Rattle.hs_plain.specs.Change.{is_accepted}
use Rattle.hs_plain.specs.Replay.{replay_from, plain_after}
use Rattle.hs_plain.specs.Span.{touches}
use Rattle.hs_plain.specs.Premises.{SyncAsk, SyncSide, IsUndisturbed, IsUnhindered, state_before}
use Rattle.hs_plain.specs.Plan.{root_names, ArePlanCalls, AreEqual}
use Rattle.hs_plain.proofs.ValidShapes.{none_some, true_false}
use Rattle.hs_plain.proofs.ValidLists.{by_test}
use Rattle.hs_plain.proofs.ValidAsked.{same_ok}
use Rattle.hs_plain.proofs.Paged.{state_later}
use Rattle.plan_laws.specs.Steps.{own_calls, HasFirst, NextIsOk, AreOk}
use Rattle.plan_laws.specs.Undisturbed.{plan_begun, IsReady, AreWithinLimit, IsUnderWay, is_entry_of, entries_up_to}
use Rattle.plan_laws.proofs.Begun.{is-ready}
use Rattle.plan_laws.proofs.PlanJournal.{plan-ok, plan-next, plan-equal}

-- ---- entries by their index

each-by-index : {X : Type 0} (P : X → Type 0) (xs : List X) → ((i : ℕ) (x : X) → slice_get xs i ≡ Some x → P x) → AllByRecursion P xs
each-by-index P [] all = tt
each-by-index P (x ∷ xs) all = (all 0 x refl, each-by-index P xs (λ i. all (suc i)))

get-dropped : {X : Type 0} (n i : ℕ) (xs : List X) → slice_get (drop n xs) i ≡ slice_get xs (n + i)
get-dropped zero i xs = let same : i ≡ 0 + i = omega arith in ap (slice_get xs) same
get-dropped (suc n) i [] = refl
get-dropped (suc n) i (x ∷ xs) = let same : suc (n + i) ≡ suc n + i = omega arith in get-dropped n i xs ∙ ap (slice_get (x ∷ xs)) same

get-taken : {X : Type 0} (n i : ℕ) (xs : List X) (x : X) → slice_get (take n xs) i ≡ Some x → (i < n) × (slice_get xs i ≡ Some x)
get-taken zero i xs x h = absurd (none_some h)
get-taken (suc n) i [] x h = absurd (none_some h)
get-taken (suc n) zero (y ∷ xs) x h = (omega arith, h)
get-taken (suc n) (suc i) (y ∷ xs) x h = let rest : (i < n) × (slice_get xs i ≡ Some x) = get-taken n i xs x h in (omega (arith, rest.0), rest.1)

-- ---- an unhindered sync

pub is-under-way : (ask : SyncAsk) (source target : SyncSide) → AreWithinLimit source target → (undisturbed : IsUndisturbed ask source target) → IsUnhindered ask source target undisturbed →
    (made : List Call) → ArePlanCalls ask.target_root (plan_begun ask (state_before source) (state_before target) undisturbed.begins) undisturbed.begins.to.tree made →
    (end : ℕ) → target.span.low ≤ end → end ≤ target.span.high → (rest : List Call) → own_calls (is_entry_of target.callers) (entries_up_to target end) ++ rest ≡ made → IsUnderWay ask source target end
is-under-way ask source target limits undisturbed unhindered made are end from within rest own = record {
  limits = limits;
  undisturbed = undisturbed;
  paths = unhindered.paths;
  calls = made;
  are_calls = are;
  made = record {
    from = from;
    within = within;
    rest = rest;
    own = own;
    accepted = λ index entry at. unhindered.target_faults index entry (record { from = at.from; below = omega (arith, at.below, within); there = at.there });
  };
}

-- ---- a sync that is under way

module _ (ask : SyncAsk) (source target : SyncSide) (end : ℕ) (way : IsUnderWay ask source target end) where
  ready : IsReady ask (state_before source) (state_before target) way.undisturbed.begins
  ready = is-ready ask source target way.limits way.undisturbed.begins way.undisturbed.unchanged

  abbrev entries : List Entry
  entries = entries_up_to target end

  abbrev is_own : Entry → Bool
  is_own = is_entry_of target.callers

  abbrev low : ℕ
  low = target.span.low

  -- the index of an entry in the journal
  record IsAt (i : ℕ) (entry : Entry) : Type 0 where
    below : low + i < end
    there : slice_get target.journal (low + i) ≡ Some entry

  at-index : (i : ℕ) (entry : Entry) → slice_get entries i ≡ Some entry → IsAt i entry
  at-index i entry h =
      let taken : (i < end - low) × (slice_get (drop low target.journal) i ≡ Some entry) = get-taken (end - low) i (drop low target.journal) entry h in
      record { below = omega (arith, taken.0); there = sym (get-dropped low i target.journal) ∙ taken.1 }

  accepted : AllByRecursion (λ entry. is_own entry ≡ true → is_accepted entry.kind ≡ true) entries
  accepted = each-by-index (λ entry. is_own entry ≡ true → is_accepted entry.kind ≡ true) entries (λ i entry h own.
      let at : IsAt i entry = at-index i entry h in
      way.made.accepted (low + i) entry (record { from = omega arith; below = at.below; there = at.there }) own)

  others : AllByRecursion (λ entry. is_own entry ≡ false → touches ask.target_root entry ≡ false) entries
  others = each-by-index (λ entry. is_own entry ≡ false → touches ask.target_root entry ≡ false) entries (λ i entry h other.
      let at : IsAt i entry = at-index i entry h in
      by_test (touches ask.target_root entry)
      (λ near. absurd (true_false (way.undisturbed.quiet (low + i) entry (record { from = omega arith; below = omega (arith, at.below, way.made.within); there = at.there }) near) other))
      (λ far. far))

  first : HasFirst is_own ask.target_root entries way.calls
  first = record { rest = way.made.rest; own = way.made.own; accepted = accepted; others = others }

  abbrev from : Tree (List ℕ)
  from = way.undisturbed.begins.from.tree

  abbrev to : Tree (List ℕ)
  to = way.undisturbed.begins.to.tree

  abbrev names : Names
  names = root_names way.undisturbed.begins.base.tree

  later : plain_after (take end target.journal) ≡ replay_from plain_files (state_before target) entries
  later = state_later target.journal low end way.made.from

  pub way-ok : AreOk is_own (state_before target) entries
  way-ok = plan-ok from to ready.pair ready.same_bytes names ready.from_free ready.to_free ready.few_outs way.calls ask.target_root way.are_calls ready.to_names way.paths ready.root (state_before target) ready.is_target is_own entries first

  pub way-next : NextIsOk (plain_after (take end target.journal)) way.made.rest
  unfolding first
  way-next = subst (λ (state : State (List ℕ)). NextIsOk state way.made.rest) (sym later)
      (plan-next from to ready.pair ready.same_bytes names ready.from_free ready.to_free ready.few_outs way.calls ask.target_root way.are_calls ready.to_names way.paths ready.root (state_before target) ready.is_target is_own entries first)

  pub way-equal : way.made.rest ≡ [] → (root : Names) → live_path ask.target_root ≡ Ok root → AreEqual to (subtree (plain_after (take end target.journal)).tree root)
  unfolding first
  way-equal none root leads =
      subst (λ (path : Names). AreEqual to (subtree (plain_after (take end target.journal)).tree path)) (same_ok (sym ready.is_target.leads ∙ leads))
      (subst (λ (state : State (List ℕ)). AreEqual to (subtree state.tree ready.root)) (sym later)
      (plan-equal from to ready.pair ready.same_bytes names ready.from_free ready.to_free ready.few_outs way.calls ask.target_root way.are_calls ready.to_names way.paths ready.root (state_before target) ready.is_target is_own entries first none))
