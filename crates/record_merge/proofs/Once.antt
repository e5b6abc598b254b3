-- A sorted list with each element once.
use Rattle.std.proofs.Common.{◌≡◌, ℕ, suc, ◌<◌, ◌≤◌, Bool, true, false, cond, nat_eq, List, [], ◌∷◌, length, get_or, refl, sym, ap, subst, ◌∙◌, arith}
use Rattle.std.specs.List.{Contains, dedup_from, dedup}
use Rattle.std.specs.List.Sorted.{IsNonDecreasingBy}
use Rattle.std.proofs.lemmas.Bool.Decides.{Decides-eqb}
use Rattle.hs_types.specs.declared.ids.InodeId.{InodeId}
use Rattle.hs_plain.proofs.ValidShapes.{true_false}
use Rattle.table_laws.proofs.RecordElements.{at_head, at_later, by_first, not_empty}
use Rattle.record_merge.specs.Dropping.{RiseAbove, AreRising}

abbrev pub same_number : InodeId → InodeId → Bool
same_number a b = nat_eq a.0 b.0

-- each id is at least a number, and at most those that follow
abbrev UpFrom : ℕ → List InodeId → Type 0
UpFrom low [] = Unit {0}
UpFrom low (id ∷ ids) = (low ≤ id.0) × UpFrom id.0 ids

up_from : (low : ℕ) (ids : List InodeId) → IsNonDecreasingBy (λ (i : InodeId). i.0) ids → ((d : InodeId) → 0 < length ids → low ≤ (get_or ids 0 d).0) → UpFrom low ids
up_from low [] h first = tt
up_from low (id ∷ ids) h first = (first id (omega arith), up_from id.0 ids (λ i j d le lt. h (suc i) (suc j) d (omega (arith, le)) (omega (arith, lt))) (λ d some. h 0 1 d (omega arith) (omega (arith, some))))

above_of : (k n : ℕ) → k ≤ n → nat_eq n k ≡ false → k < n
above_of k n le e = let apart : n ≡ k → ⊥ = λ same. true_false ((Decides-eqb n k).1 same) e in omega (arith, le, apart)

once_from : (low : ℕ) (k : InodeId) (ids : List InodeId) → low < k.0 → UpFrom k.0 ids → RiseAbove low (dedup_from same_number k ids)
once_from low k [] lt up = (lt, tt)
once_from low k (id ∷ ids) lt up = by (λ same. once_from low k ids lt (subst (λ n. UpFrom n ids) same up.1)) (λ above. once_from k.0 id ids above up.1) (nat_eq id.0 k.0) refl
  where
    by : (id.0 ≡ k.0 → RiseAbove low (dedup_from same_number k ids)) → (k.0 < id.0 → RiseAbove k.0 (dedup_from same_number id ids)) → (b : Bool) → nat_eq id.0 k.0 ≡ b
        → RiseAbove low (cond b (dedup_from same_number k ids) (k ∷ dedup_from same_number id ids))
    by same on true e = same ((Decides-eqb id.0 k.0).0 e)
    by same on false e = (lt, on (above_of k.0 id.0 up.0 e))

head_rising : (k : InodeId) (ids : List InodeId) → UpFrom k.0 ids → AreRising (dedup_from same_number k ids)
head_rising k [] up = tt
head_rising k (id ∷ ids) up = by (λ same. head_rising k ids (subst (λ n. UpFrom n ids) same up.1)) (nat_eq id.0 k.0) refl
  where
    by : (id.0 ≡ k.0 → AreRising (dedup_from same_number k ids)) → (b : Bool) → nat_eq id.0 k.0 ≡ b → AreRising (cond b (dedup_from same_number k ids) (k ∷ dedup_from same_number id ids))
    by same true e = same ((Decides-eqb id.0 k.0).0 e)
    by same false e = once_from k.0 id ids (above_of k.0 id.0 up.0 e) up.1

pub once-rising : (ids : List InodeId) → IsNonDecreasingBy (λ (i : InodeId). i.0) ids → AreRising (dedup same_number ids)
once-rising [] h = tt
once-rising (id ∷ ids) h = head_rising id ids (up_from id.0 ids (λ i j d le lt. h (suc i) (suc j) d (omega (arith, le)) (omega (arith, lt))) (λ d some. h 0 1 d (omega arith) (omega (arith, some))))

once_all : (k : InodeId) (ids : List InodeId) (x : InodeId) → Contains (k ∷ ids) x → Contains (dedup_from same_number k ids) x
once_all k [] x c = c
once_all k (id ∷ ids) x c = by (once_all k ids x) (once_all id ids x) (nat_eq id.0 k.0) refl
  where
    by : (Contains (k ∷ ids) x → Contains (dedup_from same_number k ids) x) → (Contains (id ∷ ids) x → Contains (dedup_from same_number id ids) x) → (b : Bool) → nat_eq id.0 k.0 ≡ b
        → Contains (cond b (dedup_from same_number k ids) (k ∷ dedup_from same_number id ids)) x
    by one more true e = one (by_first k (id ∷ ids) x c
        (λ here. subst (λ y. Contains (k ∷ ids) y) here (at_head k ids))
        (λ rest. by_first id ids x rest
        (λ here. let same : k ≡ id = ap (λ n. record { 0 = n }) (sym ((Decides-eqb id.0 k.0).0 e)) in subst (λ y. Contains (k ∷ ids) y) (same ∙ here) (at_head k ids))
        (λ later. at_later k ids x later)))
    by one more false e = by_first k (id ∷ ids) x c
        (λ here. subst (λ y. Contains (k ∷ dedup_from same_number id ids) y) here (at_head k (dedup_from same_number id ids)))
        (λ rest. at_later k (dedup_from same_number id ids) x (more rest))

pub all-once : (ids : List InodeId) (x : InodeId) → Contains ids x → Contains (dedup same_number ids) x
all-once [] x c = c
all-once (id ∷ ids) x c = once_all id ids x c

-- what rises goes on above
pub rise-apart : (low : ℕ) (ids : List InodeId) (x : InodeId) → RiseAbove low ids → Contains ids x → low < x.0
rise-apart low [] x rise c = not_empty x c
rise-apart low (id ∷ ids) x rise c = by_first id ids x c
    (λ here. subst (λ (y : InodeId). low < y.0) here rise.0)
    (λ more. let lt = rise.0 in let on = rise-apart id.0 ids x rise.1 more in omega (arith, lt, on))
