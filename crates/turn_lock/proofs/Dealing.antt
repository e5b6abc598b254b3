-- The seats that a lock begins with.
use Rattle.std.proofs.Common.{◌≡◌, ◌≢◌, ℕ, zero, suc, ◌+◌, ◌<◌, List, [], ◌∷◌, ◌++◌, length, length-append, refl, ap, sym, ◌∙◌, arith}
use mathlib.Core.Logic.{dite}
use native.Mathlib.Decide.{ℕ_discrete}
use Rattle.turn_lock.specs.declared.historied.Kept.{Kept}
use Rattle.turn_lock.specs.declared.view.View.{View}
use Rattle.std.specs.Prelude.{slice_index_or}
use Rattle.atomic_table.specs.Seated.{TableId}
use Rattle.turn_lock.specs.Seats.{Seat, seat_at, AreDealt}
use Rattle.turn_lock.specs.Steps.{opener, at_rest}

-- the opening seat after n callers got theirs
abbrev pub dealing : ℕ → Kept → ℕ → View
dealing seats kept n = record (opener seats kept) { from = n }

at_before : {A : Type 0} (xs : List A) (y : A) (k : ℕ) (d : A) → k < length xs → slice_index_or (xs ++ y ∷ []) k d ≡ slice_index_or xs k d
at_before [] y k d h = absurd (omega arith)
at_before (x ∷ xs) y zero d h = refl
at_before (x ∷ xs) y (suc k) d h = at_before xs y k d (omega arith)

at_last : {A : Type 0} (xs : List A) (y : A) (k : ℕ) (d : A) → length xs ≡ k → slice_index_or (xs ++ y ∷ []) k d ≡ y
at_last [] y zero d h = refl
at_last [] y (suc k) d h = absurd (omega arith)
at_last (x ∷ xs) y zero d h = absurd (omega arith)
at_last (x ∷ xs) y (suc k) d h = at_last xs y k d (omega arith)

-- one seat more
pub dealt_more : (table : TableId) (seats : ℕ) (kept : Kept) (n : ℕ) (xs ys : List Seat) (y : Seat) → ys ≡ xs ++ y ∷ [] → y ≡ seat_at table (at_rest seats kept n []) → AreDealt table seats kept n xs → AreDealt table seats kept (n + 1) ys
dealt_more table seats kept n xs ys y is last dealt = (ap length is ∙ (length-append xs (y ∷ []) ∙ ap (λ (k : ℕ). k + 1) dealt.0), each)
  where
    each : (k : ℕ) (d : Seat) → k < n + 1 → slice_index_or ys k d ≡ seat_at table (at_rest seats kept k [])
    each k d h = ap (λ l. slice_index_or l k d) is ∙ dite (ℕ_discrete k n)
        (λ (e : k ≡ n). at_last xs y k d (dealt.0 ∙ sym e) ∙ (last ∙ ap (λ (i : ℕ). seat_at table (at_rest seats kept i [])) (sym e)))
        (λ (ne : k ≢ n). (let long = dealt.0 in let low : k < n = omega arith in at_before xs y k d (omega arith) ∙ dealt.1 k d low))
