-- Among the records, one is taken into the one before it.
use Rattle.std.proofs.Common.{◌≡◌, ℕ, zero, suc, ◌+◌, ◌<◌, ◌≤◌, List, [], ◌∷◌, length, map, get_or, set, refl, sym, ap, subst, ◌∙◌, ◌-◌, arith}
use Rattle.std.proofs.lemmas.List.{get_or_default}
use Rattle.std.specs.Prelude.{remove}
use Rattle.dir_changes.specs.declared.recorded.DirRecord.{DirRecord}
use Rattle.dir_changes.specs.History.{with_later, taken, combined_at, cancelled, dropped_behind, dropped_at}
use Rattle.dir_changes.specs.Recorded.{past_of, diff_of}
use Rattle.dir_changes.specs.Spare.{LastHasRoom, PairsFit}

-- the record before stays in its place
pub get_or-before : (rs : List DirRecord) (j : ℕ) (d : DirRecord) → suc j < length rs → get_or (remove rs (suc j)) j d ≡ get_or rs j d
get_or-before [] j d lt = absurd (omega arith)
get_or-before (r ∷ rs) zero d lt = refl
get_or-before (r ∷ rs) (suc j) d lt = get_or-before rs j d (omega arith)

pasts_taken : (p : DirRecord) (rs : List DirRecord) (j : ℕ) (d e : DirRecord) → j < length rs → past_of e ≡ with_later (past_of (get_or (p ∷ rs) j d)) (past_of (get_or rs j d)) → map past_of (set (remove (p ∷ rs) (suc j)) j e) ≡ taken (past_of p) (map past_of rs) j
pasts_taken p [] j d e lt is = absurd (omega arith)
pasts_taken p (q ∷ rs) zero d e lt is = ap (λ x. x ∷ map past_of rs) is
pasts_taken p (q ∷ rs) (suc j) d e lt is = ap (λ l. past_of p ∷ l) (pasts_taken q rs j d e (omega arith) is)

pub pasts_combined : (rs : List DirRecord) (j : ℕ) (d e : DirRecord) → suc j < length rs → past_of e ≡ with_later (past_of (get_or rs j d)) (past_of (get_or rs (suc j) d)) → map past_of (set (remove rs (suc j)) j e) ≡ combined_at (suc j) (map past_of rs)
pasts_combined [] j d e lt is = absurd (omega arith)
pasts_combined (p ∷ rs) j d e lt is = pasts_taken p rs j d e (omega arith) is

dropped_taken : (p : DirRecord) (rs : List DirRecord) (j : ℕ) (d : DirRecord) → j < length rs → cancelled (diff_of (get_or (p ∷ rs) j d)) (diff_of (get_or rs j d)) ≡ dropped_behind (past_of p) (map past_of rs) j
dropped_taken p [] j d lt = absurd (omega arith)
dropped_taken p (q ∷ rs) zero d lt = refl
dropped_taken p (q ∷ rs) (suc j) d lt = dropped_taken q rs j d (omega arith)

pub dropped_combined : (rs : List DirRecord) (j : ℕ) (d : DirRecord) → suc j < length rs → cancelled (diff_of (get_or rs j d)) (diff_of (get_or rs (suc j) d)) ≡ dropped_at (suc j) (map past_of rs)
dropped_combined [] j d lt = absurd (omega arith)
dropped_combined (p ∷ rs) j d lt = dropped_taken p rs j d (omega arith)

-- two neighbours fit
pub pair_fits : (len : DirRecord → ℕ) (most : ℕ) (rs : List DirRecord) (j : ℕ) (d : DirRecord) → suc j < length rs → PairsFit len most rs → len (get_or rs j d) + len (get_or rs (suc j) d) ≤ most
pair_fits len most [] j d lt fit = absurd (omega arith)
pair_fits len most (p ∷ []) j d lt fit = absurd (omega arith)
pair_fits len most (p ∷ q ∷ rs) zero d lt fit = fit.0
pair_fits len most (p ∷ q ∷ rs) (suc j) d lt fit = pair_fits len most (q ∷ rs) j d (omega arith) fit.1

last_cons : (n : ℕ) (p : DirRecord) (rs : List DirRecord) → 0 < length rs → LastHasRoom n rs → LastHasRoom n (p ∷ rs)
last_cons n p [] lt room = absurd (omega arith)
last_cons n p (r ∷ rs) lt room = room

length_taken : (p : DirRecord) (rs : List DirRecord) (j : ℕ) (e : DirRecord) → j < length rs → 0 < length (set (remove (p ∷ rs) (suc j)) j e)
length_taken p [] j e lt = absurd (omega arith)
length_taken p (q ∷ rs) zero e lt = omega arith
length_taken p (q ∷ rs) (suc j) e lt = omega arith

last_taken : (n : ℕ) (p : DirRecord) (rs : List DirRecord) (j : ℕ) (e : DirRecord) → j < length rs → n ≤ e.created.room → n ≤ e.deleted.room → LastHasRoom n (p ∷ rs) → LastHasRoom n (set (remove (p ∷ rs) (suc j)) j e)
last_taken n p [] j e lt created deleted room = absurd (omega arith)
last_taken n p (q ∷ []) zero e lt created deleted room = (created, deleted)
last_taken n p (q ∷ r ∷ rs) zero e lt created deleted room = room
last_taken n p (q ∷ rs) (suc j) e lt created deleted room =
    let lt' : j < length rs = omega arith in
    last_cons n p (set (remove (q ∷ rs) (suc j)) j e) (length_taken q rs j e lt') (last_taken n q rs j e lt' created deleted room)

pub last_combined : (n : ℕ) (rs : List DirRecord) (j : ℕ) (e : DirRecord) → suc j < length rs → n ≤ e.created.room → n ≤ e.deleted.room → LastHasRoom n rs → LastHasRoom n (set (remove rs (suc j)) j e)
last_combined n [] j e lt created deleted room = absurd (omega arith)
last_combined n (p ∷ rs) j e lt created deleted room = last_taken n p rs j e (omega arith) created deleted room

-- ---- as the code finds them: the later record was removed, and the earlier one stands before its place

module _ (rs removed : List DirRecord) (i : ℕ) (earlier later : DirRecord) (above : i ≡ 0 → ⊥) (lt : i < length rs) (gone : removed ≡ remove rs i) (later_is : later ≡ get_or rs i later) (earlier_is : earlier ≡ get_or removed (i - 1) earlier) where
  next : i ≡ suc (i - 1)
  next = omega arith

  inside : suc (i - 1) < length rs
  inside = omega arith

  removed_is : removed ≡ remove rs (suc (i - 1))
  removed_is = gone ∙ ap (remove rs) next

  later_at : later ≡ get_or rs (suc (i - 1)) later
  later_at = later_is ∙ ap (λ n. get_or rs n later) next

  shorter : i - 1 < length removed
  shorter = subst (λ (l : List DirRecord). i - 1 < length l) (sym gone) (length_removed rs (i - 1) i next lt)
    where
      length_removed : (rs : List DirRecord) (j i : ℕ) → i ≡ suc j → i < length rs → j < length (remove rs i)
      length_removed rs j i e lt = subst (λ (n : ℕ). j < length (remove rs n)) (sym e) (go rs j (omega arith))
        where
          go : (rs : List DirRecord) (j : ℕ) → suc j < length rs → j < length (remove rs (suc j))
          go [] j lt = absurd (omega arith)
          go (p ∷ []) j lt = absurd (omega arith)
          go (p ∷ q ∷ rs) zero lt = omega arith
          go (p ∷ q ∷ rs) (suc j) lt = omega (arith, go (q ∷ rs) j (omega arith))

  earlier_at : earlier ≡ get_or rs (i - 1) later
  earlier_at = earlier_is ∙ get_or_default removed (i - 1) earlier later shorter ∙ ap (λ l. get_or l (i - 1) later) removed_is ∙ get_or-before rs (i - 1) later inside

  pub pair_at : (len : DirRecord → ℕ) (most : ℕ) → PairsFit len most rs → len earlier + len later ≤ most
  pair_at len most fit = subst (λ (d : DirRecord). len d + len later ≤ most) (sym earlier_at)
      (subst (λ (d : DirRecord). len (get_or rs (i - 1) later) + len d ≤ most) (sym later_at) (pair_fits len most rs (i - 1) later inside fit))

  pub combined_as : (e : DirRecord) → past_of e ≡ with_later (past_of earlier) (past_of later) → map past_of (set removed (i - 1) e) ≡ combined_at i (map past_of rs)
  combined_as e is = ap (λ l. map past_of (set l (i - 1) e)) removed_is
      ∙ pasts_combined rs (i - 1) later e inside (is ∙ (λ k. with_later (past_of (earlier_at k)) (past_of (later_at k))))
      ∙ ap (λ n. combined_at n (map past_of rs)) (sym next)

  pub dropped_as : cancelled (diff_of earlier) (diff_of later) ≡ dropped_at i (map past_of rs)
  dropped_as = (λ k. cancelled (diff_of (earlier_at k)) (diff_of (later_at k))) ∙ dropped_combined rs (i - 1) later inside ∙ ap (λ n. dropped_at n (map past_of rs)) (sym next)

  pub last_as : (n : ℕ) (e : DirRecord) → n ≤ e.created.room → n ≤ e.deleted.room → LastHasRoom n rs → LastHasRoom n (set removed (i - 1) e)
  last_as n e created deleted room = subst (λ (l : List DirRecord). LastHasRoom n (set l (i - 1) e)) (sym removed_is) (last_combined n rs (i - 1) e inside created deleted room)
