-- Where a path belongs in a tree whose paths rise, found by halves.
use Rattle.std.proofs.Common.{◌≡◌, ℕ, zero, suc, ◌+◌, ◌<◌, ◌≤◌, Bool, true, false, List, [], ◌∷◌, length, get_or, refl, ap, sym, ◌∙◌, arith}
use Rattle.std.specs.List.{prefix_len}
use Rattle.std.specs.List.Sorted.{IsPartitionedBy, IsPartitionPoint}
use Rattle.std.specs.Ordering.{is_gt, is_lt, ordering_reverse}
use Rattle.std.specs.declared.cmp.Ordering.{Ordering}
use Rattle.std.specs.declared.cmp.Ordering.TheVariants.{Less, Equal, Greater}
use Rattle.std.specs.Cmp.{IsTotalOrder}
use Rattle.std.specs.FinMap.Entries.{is_sorted, below_all}
use Rattle.std.proofs.lemmas.List.Sums.{prefix_len_is}
use Rattle.hs_types.specs.Names.{Names}
use Rattle.hs_plain.specs.declared.state.Node.{Node}
use Rattle.hs_plain.specs.Tree.{Tree, path_cmp}
use Rattle.hs_plain.specs.inside.Ranks.{is_after}
use Rattle.hs_plain.proofs.ValidTrees.{paths_total, first, second}

-- a partition point counts what stands in front of the first that fails the test
pub prefix_len-from_point : {X : Type 0} (p : X → Bool) (xs : List X) (i : ℕ) → i ≤ length xs → IsPartitionPoint (λ x. p x ≡ true) (λ x. p x ≡ false) xs i → i ≡ prefix_len p xs
prefix_len-from_point p [] i bound point = omega arith
prefix_len-from_point p (x ∷ xs) i bound point =
    sym (prefix_len_is p (x ∷ xs) i x bound (λ k lt. point.0 k x (omega arith) lt) (λ lt. point.1 i x (omega arith) lt))

lesser : (o : Ordering) → is_lt o ≡ true → o ≡ Less
lesser Less so = refl
lesser Equal so = cc
lesser Greater so = cc

greater : (o : Ordering) → is_gt o ≡ true → o ≡ Greater
greater Less so = cc
greater Equal so = cc
greater Greater so = refl

-- what is behind a key is behind all lesser ones
greater_still : {K : Type 0} (R : K → K → Ordering) (total : IsTotalOrder R) (a b k : K) → R a b ≡ Less → R k b ≡ Greater → R k a ≡ Greater
greater_still R total a b k less behind =
    total.antisymm k a ∙ ap ordering_reverse (total.trans a b k less (total.antisymm b k ∙ ap ordering_reverse behind))

module _ {K X : Type 0} (R : K → K → Ordering) where
  below-at : (k : K) (es : List (K × X)) (j : ℕ) (d : K × X) → below_all R k es ≡ true → j < length es → R k (get_or es j d).0 ≡ Less
  below-at k [] j d below lt = absurd (omega arith)
  below-at k (e ∷ es) zero d below lt = lesser (R k e.0) (first _ _ below)
  below-at k (e ∷ es) (suc j) d below lt = below-at k es j d (second _ _ below) (omega arith)

  -- no entry that a key is behind comes after one that it isn't behind
  pub IsPartitionedBy-from_sorted : (total : IsTotalOrder R) (k : K) (es : List (K × X)) → is_sorted R es ≡ true → IsPartitionedBy (λ e. is_gt (R k e.0)) es
  IsPartitionedBy-from_sorted total k [] sorted i j d le lt behind = absurd (omega arith)
  IsPartitionedBy-from_sorted total k (e ∷ es) sorted zero zero d le lt behind = behind
  IsPartitionedBy-from_sorted total k (e ∷ es) sorted zero (suc j) d le lt behind =
      ap is_gt (greater_still R total e.0 (get_or es j d).0 k (below-at e.0 es j d (first _ _ sorted) (omega arith)) (greater _ behind))
  IsPartitionedBy-from_sorted total k (e ∷ es) sorted (suc i) zero d le lt behind = absurd (omega arith)
  IsPartitionedBy-from_sorted total k (e ∷ es) sorted (suc i) (suc j) d le lt behind = IsPartitionedBy-from_sorted total k es (second _ _ sorted) i j d (omega arith) (omega arith) behind

-- a path's rank splits a tree whose paths rise
pub IsPartitionedBy-path : {B : Type 0} (path : Names) (tree : Tree B) → is_sorted path_cmp tree ≡ true → IsPartitionedBy (is_after path) tree
IsPartitionedBy-path path tree sorted = IsPartitionedBy-from_sorted path_cmp paths_total path tree sorted

-- where the last passes such a test, all do
pub prefix_len-from_last : {X : Type 0} (p : X → Bool) (xs : List X) (last : ℕ) (d : X) → IsPartitionedBy p xs → length xs ≡ last + 1 → p (get_or xs last d) ≡ true → length xs ≡ prefix_len p xs
prefix_len-from_last p xs last d halves is_last passes =
    sym (prefix_len_is p xs (length xs) d (omega arith) (λ k lt. halves k last d (omega (arith, is_last)) (omega (arith, is_last)) passes) (λ lt. absurd (omega arith)))

pub comes_last-so : {B : Type 0} (path : Names) (tree : Tree B) (last : ℕ) (d : Names × Node B) → is_sorted path_cmp tree ≡ true → length tree ≡ last + 1 → is_after path (get_or tree last d) ≡ true → length tree ≡ prefix_len (is_after path) tree
comes_last-so path tree last d sorted is_last passes = prefix_len-from_last (is_after path) tree last d (IsPartitionedBy-path path tree sorted) is_last passes
