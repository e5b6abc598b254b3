-- What each entry of a span keeps holds throughout it.
use Rattle.std.proofs.Common.{◌≡◌, ℕ, zero, suc, ◌+◌, ◌-◌, ◌≤◌, Some, None, List, [], ◌∷◌, take, refl, ap, sym, subst, arith}
use Rattle.std.specs.Prelude.{slice_get}
use Rattle.hs_types.specs.declared.journal.Entry.{Entry}
use Rattle.hs_plain.specs.declared.state.State.{State}
use Rattle.hs_plain.specs.Files.{plain_files}
use Rattle.hs_plain.specs.State.{start}
use Rattle.hs_plain.specs.Change.{after}
use Rattle.hs_plain.specs.Replay.{replay_from}
use Rattle.hs_plain.specs.Span.{Span, IsInSpan}
use Rattle.hs_plain.proofs.ValidShapes.{none_some, same_some}
use Rattle.plan_laws.proofs.Paths.{by_one}
use Rattle.sync_laws.specs.Lasting.{state_at, IsWithin}

one-more : (state : State (List ℕ)) (journal : List Entry) (i : ℕ) (entry : Entry) → slice_get journal i ≡ Some entry → replay_from plain_files state (take (suc i) journal) ≡ after plain_files (replay_from plain_files state (take i journal)) entry
one-more state [] i entry there = absurd (none_some there)
one-more state (e ∷ journal) zero entry there = ap (after plain_files state) (same_some there)
one-more state (e ∷ journal) (suc i) entry there = one-more (after plain_files state e) journal i entry there

no-more : (journal : List Entry) (i : ℕ) → slice_get journal i ≡ None → take (suc i) journal ≡ take i journal
no-more [] zero none = refl
no-more [] (suc i) none = refl
no-more (e ∷ journal) zero none = absurd (none_some (sym none))
no-more (e ∷ journal) (suc i) none = ap (λ (xs : List Entry). e ∷ xs) (no-more journal i none)

module _ (P : State (List ℕ) → Type 0) (journal : List Entry) (span : Span) (keeps : (index : ℕ) (entry : Entry) → IsInSpan journal span index entry → P (state_at journal index) → P (after plain_files (state_at journal index) entry)) (begins : P (state_at journal span.low)) where
  up : (n : ℕ) → span.low + n ≤ span.high → P (state_at journal (span.low + n))
  up zero le = let same : span.low ≡ span.low + 0 = omega arith in subst (λ k. P (state_at journal k)) same begins
  up (suc n) le =
      let more : suc (span.low + n) ≡ span.low + suc n = omega arith in
      let before : P (state_at journal (span.low + n)) = up n (omega (arith, le)) in
      subst (λ k. P (state_at journal k)) more
      (by_one (slice_get journal (span.low + n))
      (λ entry there. subst P (sym (one-more start journal (span.low + n) entry there)) (keeps (span.low + n) entry (record { from = omega arith; below = omega (arith, le); there = there }) before))
      (λ none. subst (λ (xs : List Entry). P (replay_from plain_files start xs)) (sym (no-more journal (span.low + n) none)) before))

  pub throughout : (index : ℕ) → IsWithin span index → P (state_at journal index)
  throughout index within =
      let same : span.low + (index - span.low) ≡ index = omega (arith, within.from) in
      subst (λ k. P (state_at journal k)) same (up (index - span.low) (omega (arith, within.from, within.up_to)))
