-- The last record is changed, the ones before it stay.
use Rattle.std.proofs.Common.{◌≡◌, ℕ, ◌+◌, ◌≤◌, List, [], ◌∷◌, ◌++◌, map, refl, ap, arith}
use Rattle.dir_changes.specs.declared.recorded.DirRecord.{DirRecord}
use Rattle.dir_changes.specs.Undo.{ListDiff}
use Rattle.dir_changes.specs.History.{change_last}
use Rattle.dir_changes.specs.Recorded.{past_of, noted}
use Rattle.dir_changes.specs.Spare.{LastHasRoom, PairsFit}

-- the records before stay, and the last one is noted
pub pasts_changed : (f : ListDiff → ListDiff) (front : List DirRecord) (r s : DirRecord) → past_of s ≡ noted f (past_of r) → map past_of (front ++ s ∷ []) ≡ change_last f (map past_of (front ++ r ∷ []))
pasts_changed f [] r s is = ap (λ p. p ∷ []) is
pasts_changed f (p ∷ []) r s is = ap (λ l. past_of p ∷ l) (pasts_changed f [] r s is)
pasts_changed f (p ∷ q ∷ front) r s is = ap (λ l. past_of p ∷ l) (pasts_changed f (q ∷ front) r s is)

pub pasts_same : (front : List DirRecord) (r s : DirRecord) → past_of s ≡ past_of r → map past_of (front ++ s ∷ []) ≡ map past_of (front ++ r ∷ [])
pasts_same [] r s is = ap (λ p. p ∷ []) is
pasts_same (p ∷ front) r s is = ap (λ l. past_of p ∷ l) (pasts_same front r s is)

pub last_room : (n : ℕ) (front : List DirRecord) (r : DirRecord) → LastHasRoom n (front ++ r ∷ []) → (n ≤ r.created.room) × (n ≤ r.deleted.room)
last_room n [] r room = room
last_room n (p ∷ []) r room = room
last_room n (p ∷ q ∷ front) r room = last_room n (q ∷ front) r room

pub last_has_room : (n : ℕ) (front : List DirRecord) (r : DirRecord) → n ≤ r.created.room → n ≤ r.deleted.room → LastHasRoom n (front ++ r ∷ [])
last_has_room n [] r created deleted = (created, deleted)
last_has_room n (p ∷ []) r created deleted = (created, deleted)
last_has_room n (p ∷ q ∷ front) r created deleted = last_has_room n (q ∷ front) r created deleted

-- the last one may have so many entries more
pub pairs_fit_more : (len : DirRecord → ℕ) (most more : ℕ) (front : List DirRecord) (r s : DirRecord) → len s ≤ len r + more → PairsFit len most (front ++ r ∷ []) → PairsFit len (most + more) (front ++ s ∷ [])
pairs_fit_more len most more [] r s le fit = omega arith
pairs_fit_more len most more (p ∷ []) r s le fit = (omega (arith, fit.0), omega (arith, fit.1))
pairs_fit_more len most more (p ∷ q ∷ front) r s le fit = (omega (arith, fit.0), pairs_fit_more len most more (q ∷ front) r s le fit.1)

pub pairs_fit_same : (len : DirRecord → ℕ) (most : ℕ) (front : List DirRecord) (r s : DirRecord) → len s ≤ len r → PairsFit len most (front ++ r ∷ []) → PairsFit len most (front ++ s ∷ [])
pairs_fit_same len most [] r s le fit = omega arith
pairs_fit_same len most (p ∷ []) r s le fit = (omega (arith, fit.0), omega (arith, fit.1))
pairs_fit_same len most (p ∷ q ∷ front) r s le fit = (fit.0, pairs_fit_same len most (q ∷ front) r s le fit.1)

-- ---- the measure, from the last record to the first

-- how much the first one has
abbrev pub next_len : (DirRecord → ℕ) → List DirRecord → ℕ
next_len len [] = 0
next_len len (r ∷ rs) = len r

pub pairs_fit_weaker : (len : DirRecord → ℕ) (most m : ℕ) (rs : List DirRecord) → most ≤ m → PairsFit len most rs → PairsFit len m rs
pairs_fit_weaker len most m [] le fit = tt
pairs_fit_weaker len most m (r ∷ []) le fit = omega arith
pairs_fit_weaker len most m (r ∷ s ∷ rs) le fit = (omega (arith, fit.0), pairs_fit_weaker len most m (s ∷ rs) le fit.1)

pub pairs_fit_cons : (len : DirRecord → ℕ) (most m : ℕ) (r : DirRecord) (rs : List DirRecord) → most ≤ m → len r + next_len len rs ≤ m → PairsFit len most rs → PairsFit len m (r ∷ rs)
pairs_fit_cons len most m r [] le both fit = omega arith
pairs_fit_cons len most m r (s ∷ rs) le both fit = (both, pairs_fit_weaker len most m (s ∷ rs) le fit)

-- ---- a record with empty lists at the end

pub pairs_fit_push : (len : DirRecord → ℕ) (most : ℕ) (rs : List DirRecord) (r : DirRecord) → len r ≡ 0 → PairsFit len most rs → PairsFit len most (rs ++ r ∷ [])
pairs_fit_push len most [] r none fit = omega arith
pairs_fit_push len most (p ∷ []) r none fit = (omega (arith, fit), omega arith)
pairs_fit_push len most (p ∷ q ∷ rs) r none fit = (fit.0, pairs_fit_push len most (q ∷ rs) r none fit.1)

pub pasts_push : (rs : List DirRecord) (r : DirRecord) → map past_of (rs ++ r ∷ []) ≡ map past_of rs ++ past_of r ∷ []
pasts_push [] r = refl
pasts_push (p ∷ rs) r = ap (λ l. past_of p ∷ l) (pasts_push rs r)
