-- What a sort of lines by their order leaves, with each once.
use Rattle.std.proofs.Common.{◌≡◌, inl, inr, ℕ, suc, ◌+◌, ◌<◌, Bool, true, false, not, cond, ◌||◌, ◌&&◌, nat_lt, List, [], ◌∷◌, length, get_or, refl, ap, sym, subst, ◌∙◌, arith}
use Rattle.std.specs.List.{AllByRecursion, dedup_from, dedup}
use Rattle.std.specs.List.Sorted.{IsSortedBy, IsPermutation}
use Rattle.std.specs.Cmp.{IsStrictWeakOrder}
use Rattle.std.specs.Ordering.{is_lt, is_eq, ordering_reverse}
use Rattle.std.specs.declared.cmp.Ordering.{Ordering}
use Rattle.std.specs.declared.cmp.Ordering.TheVariants.{Less, Equal, Greater}
use Rattle.std.proofs.lemmas.Bool.Decides.{nat_tests}
use Rattle.std.proofs.lemmas.List.Sorted.{sorted_far, Contains-permutation, IsPermutation-sym}
use Rattle.hs_types.specs.declared.reply.Line.{Line}
use Rattle.hs_plain.specs.Tree.{path_cmp}
use Rattle.hs_plain.specs.Report.{rank_of, line_before}
use Rattle.hs_plain.specs.Ordered.{AreOrdered}
use Rattle.hs_plain.proofs.ValidLists.{In, contains-in, in-contains}
use Rattle.hs_plain.proofs.ValidShapes.{true_false}
use Rattle.hs_plain.proofs.ValidTrees.{paths_total, paths_exact}
use Rattle.hs_plain.proofs.LineOrder.{before-trans}
use Rattle.change_report.specs.Sorting.{AreApart, AreSorted}
use Rattle.change_report.proofs.OneOrder.{not-before, all-at}

-- ---- the order

record IsTied (a b : Line) : Type 0 where
  path : path_cmp a.path b.path ≡ Equal
  rank : rank_of a.kind ≡ rank_of b.kind

-- neither of two lines before the other
tied : (a b : Line) → line_before a b ≡ false → line_before b a ≡ false → IsTied a b
tied a b f g = by (path_cmp a.path b.path) refl
  where
    same_rank : (m n : ℕ) → nat_lt m n ≡ false → nat_lt n m ≡ false → m ≡ n
    same_rank m n f g = grind (arith, nat_tests)

    back : (o : Ordering) → path_cmp a.path b.path ≡ o → path_cmp b.path a.path ≡ ordering_reverse o
    back o e = paths_total.antisymm b.path a.path ∙ ap ordering_reverse e

    by : (o : Ordering) → path_cmp a.path b.path ≡ o → IsTied a b
    by Less e = absurd (true_false (ap (λ o. is_lt o || (is_eq o && nat_lt (rank_of a.kind) (rank_of b.kind))) e) f)
    by Equal e = record {
      path = e;
      rank = same_rank (rank_of a.kind) (rank_of b.kind)
          (sym (ap (λ o. is_lt o || (is_eq o && nat_lt (rank_of a.kind) (rank_of b.kind))) e) ∙ f)
          (sym (ap (λ o. is_lt o || (is_eq o && nat_lt (rank_of b.kind) (rank_of a.kind))) (back Equal e)) ∙ g);
    }
    by Greater e = absurd (true_false (ap (λ o. is_lt o || (is_eq o && nat_lt (rank_of b.kind) (rank_of a.kind))) (back Greater e)) g)

-- a line that comes before another comes before each that isn't before that
before-behind : (x y z : Line) → line_before x y ≡ true → line_before z y ≡ false → line_before x z ≡ true
before-behind x y z h f = by (line_before y z) refl
  where
    by : (b : Bool) → line_before y z ≡ b → line_before x z ≡ true
    by true e = before-trans x y z h e
    by false e = let t = tied y z e f in
        let path = paths_exact y.path z.path t.path in
        (λ i. is_lt (path_cmp x.path (sym path i)) || (is_eq (path_cmp x.path (sym path i)) && nat_lt (rank_of x.kind) (sym t.rank i))) ∙ h

one-way : (x y : Line) → line_before x y ≡ true → line_before y x ≡ false
one-way x y h = by (line_before y x) refl
  where
    by : (b : Bool) → line_before y x ≡ b → b ≡ false
    by true e = absurd (not-before x (before-trans x y x h e))
    by false e = refl

chain : (x y z : Line) → line_before x y ≡ false → line_before y z ≡ false → line_before x z ≡ false
chain x y z f g = by (line_before x z) refl
  where
    by : (b : Bool) → line_before x z ≡ b → b ≡ false
    by true e = absurd (true_false (before-behind x z y e g) f)
    by false e = refl

pub lines-order : IsStrictWeakOrder line_before
lines-order = record { one_way = one-way; chain = chain }

-- ---- sorted lists

-- no line comes before an earlier one
abbrev NoneFalls : List Line → Type 0
NoneFalls [] = Unit {0}
NoneFalls (x ∷ xs) = AllByRecursion (λ y. line_before y x ≡ false) xs × NoneFalls xs

all-from : (x : Line) (xs : List Line) → ((k : ℕ) → k < length xs → line_before (get_or xs k x) x ≡ false) → AllByRecursion (λ y. line_before y x ≡ false) xs
all-from x [] h = tt
all-from x (y ∷ ys) h = (h 0 (omega arith), all-from x ys (λ k lt. h (suc k) (omega (arith, lt))))

none-falls : (xs : List Line) → IsSortedBy line_before xs → NoneFalls xs
none-falls [] sorted = tt
none-falls (x ∷ xs) sorted = (
  all-from x xs (λ k lt. sorted_far line_before lines-order (x ∷ xs) sorted 0 (suc k) x (omega arith) (omega (arith, lt))),
  none-falls xs (λ k d low lt. ap (λ n. line_before (get_or (x ∷ xs) n d) (get_or xs k d)) {x = suc (k + 1)} {y = suc k + 1} (omega arith) ∙ sorted (suc k) d (omega arith) (omega (arith, lt))),
)

-- ---- each once

abbrev pub is_again : Line → Line → Bool
is_again later earlier = not (line_before earlier later)

in-once : (k : Line) (xs : List Line) (x : Line) → In (dedup_from is_again k xs) x → In (k ∷ xs) x
in-once k [] x at = at
in-once k (y ∷ ys) x at = by (line_before k y) at (in-once k ys x) (in-once y ys x)
  where
    later : In (k ∷ ys) x → In (k ∷ y ∷ ys) x
    later (inl e) = inl e
    later (inr at) = inr (inr at)

    by : (b : Bool) → In (cond (not b) (dedup_from is_again k ys) (k ∷ dedup_from is_again y ys)) x → (In (dedup_from is_again k ys) x → In (k ∷ ys) x) → (In (dedup_from is_again y ys) x → In (y ∷ ys) x) → In (k ∷ y ∷ ys) x
    by true (inl e) skip keep = inl e
    by true (inr at) skip keep = inr (keep at)
    by false at skip keep = later (skip at)

all-in : (P : Line → Type 0) (xs : List Line) → ((x : Line) → In xs x → P x) → AllByRecursion P xs
all-in P [] h = tt
all-in P (x ∷ xs) h = (h x (inl refl), all-in P xs (λ y at. h y (inr at)))

once-ordered : (k : Line) (xs : List Line) → NoneFalls (k ∷ xs) → AreOrdered (dedup_from is_again k xs)
once-ordered k [] falls = (tt, tt)
once-ordered k (y ∷ ys) falls = by (line_before k y) refl (once-ordered k ys (falls.0.1, falls.1.1)) (once-ordered y ys falls.1)
  where
    before : line_before k y ≡ true → (z : Line) → In (y ∷ ys) z → line_before k z ≡ true
    before h z (inl e) = ap (line_before k) (sym e) ∙ h
    before h z (inr at) = before-behind k y z h (all-at (λ z. line_before z y ≡ false) ys falls.1.0 z at)

    by : (b : Bool) → line_before k y ≡ b → AreOrdered (dedup_from is_again k ys) → AreOrdered (dedup_from is_again y ys) → AreOrdered (cond (not b) (dedup_from is_again k ys) (k ∷ dedup_from is_again y ys))
    by true e skip keep = (all-in (λ z. line_before k z ≡ true) (dedup_from is_again y ys) (λ z at. before e z (in-once y ys z at)), keep)
    by false e skip keep = skip

once-in : (k : Line) (xs : List Line) → NoneFalls (k ∷ xs) → AreApart (k ∷ xs) → (x : Line) → In (k ∷ xs) x → In (dedup_from is_again k xs) x
once-in k [] falls apart x at = at
once-in k (y ∷ ys) falls apart x at =
    by (line_before k y) refl
    (once-in k ys (falls.0.1, falls.1.1) (λ a b at bt. apart a b (wider a at) (wider b bt)) x)
    (once-in y ys falls.1 (λ a b at bt. apart a b (inr at) (inr bt)) x) at
  where
    wider : (a : Line) → In (k ∷ ys) a → In (k ∷ y ∷ ys) a
    wider a (inl e) = inl e
    wider a (inr at) = inr (inr at)

    by : (b : Bool) → line_before k y ≡ b → (In (k ∷ ys) x → In (dedup_from is_again k ys) x) → (In (y ∷ ys) x → In (dedup_from is_again y ys) x) → In (k ∷ y ∷ ys) x
        → In (cond (not b) (dedup_from is_again k ys) (k ∷ dedup_from is_again y ys)) x
    by true e skip keep (inl same) = inl same
    by true e skip keep (inr at) = inr (keep at)
    by false e skip keep (inl same) = skip (inl same)
    by false e skip keep (inr (inl same)) = skip (inl (apart k y (inl refl) (inr (inl refl)) e falls.0.0 ∙ same))
    by false e skip keep (inr (inr at)) = skip (inr at)

once : (xs : List Line) → NoneFalls xs → AreSorted xs (dedup is_again xs)
once [] falls = record { order = tt; back = λ x at. at; there = λ apart x at. at }
once (x ∷ xs) falls = record { order = once-ordered x xs falls; back = in-once x xs; there = once-in x xs falls }

-- ---- the whole

pub sorted-once : (lines moved sorted : List Line) → IsPermutation lines moved → IsSortedBy line_before moved → sorted ≡ dedup is_again moved → AreSorted lines sorted
sorted-once lines moved sorted same order is = subst (AreSorted lines) (sym is) (record {
  order = all.order;
  back = λ x at. from x (all.back x at);
  there = λ apart x at. all.there (λ a b at bt. apart a b (from a at) (from b bt)) x (in-contains moved x (Contains-permutation lines moved x same (contains-in lines x at)));
})
  where
    all : AreSorted moved (dedup is_again moved)
    all = once moved (none-falls moved order)

    from : (x : Line) → In moved x → In lines x
    from x at = in-contains lines x (Contains-permutation moved lines x (IsPermutation-sym lines moved same) (contains-in moved x at))
