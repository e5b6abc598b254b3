-- Rows by their places: what is found at an inode's.
use Rattle.std.proofs.Common.{◌≡◌, ℕ, zero, suc, ◌+◌, ◌<◌, true, false, List, [], ◌∷◌, Option, Some, None, slice_get, refl, arith}
use Rattle.std.specs.Ordering.{eq_by_cmp}
use Rattle.std.specs.FinMap.Entries.{find}
use Rattle.std.proofs.lemmas.Bool.Decides.{nat_tests}
use Rattle.hs_types.specs.declared.ids.InodeId.{InodeId}
use Rattle.inode_table.specs.RowHistory.{id_order}
use Rattle.inode_table.specs.Numbered.{numbered, flat, at_place}

differs : (id : InodeId) (n : ℕ) → (id.0 ≡ n → ⊥) → eq_by_cmp id_order id (record { 0 = n }) ≡ false
differs id n apart = grind (arith, nat_tests, apart)

meets : (id : InodeId) (n : ℕ) → id.0 ≡ n → eq_by_cmp id_order id (record { 0 = n }) ≡ true
meets id n same = grind (arith, nat_tests, same)

module _ {X : Type 0} where
  pub below : (n : ℕ) (id : InodeId) (rows : List (Option X)) → id.0 < n → find id_order id (numbered n rows) ≡ None
  below n id [] lt = refl
  below n id (None ∷ rows) lt = below (suc n) id rows (omega (arith, lt))
  below n id (Some x ∷ rows) lt = rw (differs id n (λ same. omega (arith, lt, same))) (below (suc n) id rows (omega (arith, lt)))

  pub row_at_place : (n : ℕ) (id : InodeId) (rows : List (Option X)) (i : ℕ) → id.0 ≡ n + i → find id_order id (numbered n rows) ≡ flat (slice_get rows i)
  row_at_place n id [] i is = refl
  row_at_place n id (None ∷ rows) zero is = below (suc n) id rows (omega (arith, is))
  row_at_place n id (None ∷ rows) (suc i) is = row_at_place (suc n) id rows i (omega (arith, is))
  row_at_place n id (Some x ∷ rows) zero is = rw (meets id n (omega (arith, is))) refl
  row_at_place n id (Some x ∷ rows) (suc i) is = rw (differs id n (λ same. omega (arith, is, same))) (row_at_place (suc n) id rows i (omega (arith, is)))

  pub found : (id : InodeId) (rows : List (Option X)) → find id_order id (numbered 0 rows) ≡ at_place rows id
  found id rows = row_at_place 0 id rows id.0 (omega arith)
