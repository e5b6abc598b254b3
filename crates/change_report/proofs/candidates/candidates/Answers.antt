use Rattle.std.proofs.Common.{◌≡◌, ◌+◌, ◌≤◌, Bool, true, false, cond, List, [], ◌∷◌, length, sym, ap, subst, ◌∙◌, arith}
use Rattle.std.specs.Cmp.{IsEquivalence, nat_eq_equiv}
use Rattle.std.specs.List.{Contains, IsDistinct, dedup, dedup_from}
use Rattle.std.specs.List.Sorted.{IsSorted}
use Rattle.std.specs.Ordering.{eq_by_cmp}
use Rattle.std.proofs.lemmas.Bool.Decides.{nat_tests}
use Rattle.std.proofs.lemmas.Map.Keys.{IsDistinct-from_sorted}
use Rattle.std.proofs.lemmas.List.Filters.{dedup_is}
use Rattle.std.proofs.lemmas.List.Kept.{Contains-dedup, IsStrictlySortedBy-dedup}
use Rattle.std.proofs.lemmas.List.Sorted.{Contains-permutation, length_permutation}
use Rattle.hs_types.specs.declared.ids.InodeId.{InodeId}
use Rattle.hs_plain.specs.Tree.{same_inode}
use Rattle.hs_plain.proofs.ValidMembers.{inode_so}
use Rattle.inode_table.specs.RowHistory.{id_order}
use Rattle.table_laws.proofs.NamedTables.{ids_total}
use Rattle.change_report.proofs.candidates.candidates.Goals as goal

same-equiv : IsEquivalence same_inode
same-equiv = record {
  refl = λ a. nat_eq_equiv.refl a.0;
  symm = λ a b. nat_eq_equiv.symm a.0 b.0;
  congr = λ a b c. nat_eq_equiv.congr a.0 b.0 c.0;
}

pub returns-clause-found : goal.returns-clause-found
returns-clause-found c = λ id h.
    let xs : List InodeId = c.sort_unstable.new.self.items in
    let is : c.of.result ≡ dedup same_inode xs = c.of.ensures ∙ dedup_is same_inode xs c.dedup.new.self.items c.dedup.ensures.filtered in
    let given : c.into_vec-ids.result.items ≡ _ = c.into_vec-ids.ensures ∙ c.in_ok-made_between.ensures in
    subst (λ (l : List InodeId). Contains l id) (sym is) (Contains-dedup same-equiv inode_so xs id
    (Contains-permutation c.into_vec-ids.result.items xs id c.sort_unstable.ensures.permutation (subst (λ (l : List InodeId). Contains l id) (sym given) h)))

-- ---- each once, and no more than were found

same-by_order : (a b : InodeId) → same_inode a b ≡ eq_by_cmp id_order a b
same-by_order a b = grind (arith, nat_tests)

distinct-dedup : (xs : List InodeId) → IsSorted id_order xs → IsDistinct same_inode (dedup same_inode xs)
distinct-dedup xs sorted = subst (λ (eq : InodeId → InodeId → Bool). IsDistinct eq (dedup same_inode xs)) (λ i a b. sym (same-by_order a b) i)
    (IsDistinct-from_sorted id_order (dedup same_inode xs) (IsStrictlySortedBy-dedup ids_total same-by_order xs sorted))

length-from : (k : InodeId) (xs : List InodeId) → length (dedup_from same_inode k xs) ≤ length xs + 1
length-from k [] = omega arith
length-from k (x ∷ xs) = elim (same_inode x k) as (λ b. length (cond b (dedup_from same_inode k xs) (k ∷ dedup_from same_inode x xs)) ≤ length (x ∷ xs) + 1) [
  | true ↦ let rest = length-from k xs in omega (arith, rest)
  | false ↦ let rest = length-from x xs in omega (arith, rest)
]

length-dedup : (xs : List InodeId) → length (dedup same_inode xs) ≤ length xs
length-dedup [] = omega arith
length-dedup (x ∷ xs) = let rest = length-from x xs in omega (arith, rest)

pub returns-clause-once : goal.returns-clause-once
returns-clause-once c =
    let xs : List InodeId = c.sort_unstable.new.self.items in
    let is : c.of.result ≡ dedup same_inode xs = c.of.ensures ∙ dedup_is same_inode xs c.dedup.new.self.items c.dedup.ensures.filtered in
    subst (IsDistinct same_inode) (sym is) (distinct-dedup xs c.sort_unstable.ensures.sorted)

pub returns-clause-few : goal.returns-clause-few
returns-clause-few c =
    let xs : List InodeId = c.sort_unstable.new.self.items in
    let is : c.of.result ≡ dedup same_inode xs = c.of.ensures ∙ dedup_is same_inode xs c.dedup.new.self.items c.dedup.ensures.filtered in
    let given : c.into_vec-ids.result.items ≡ _ = c.into_vec-ids.ensures ∙ c.in_ok-made_between.ensures in
    let fewer = length-dedup xs in
    let same = length_permutation c.into_vec-ids.result.items xs c.sort_unstable.ensures.permutation in
    let all = ap (λ (l : List InodeId). length l) given in
    let long = ap (λ (l : List InodeId). length l) is in
    omega (arith, fewer, same, all, long)
