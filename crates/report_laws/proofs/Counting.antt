-- How many entries differ.
use Rattle.std.proofs.Common.{◌≡◌, ℕ, Bool, true, false, refl, sym, ap, ⊎_elim, arith}
use Rattle.std.specs.Prelude.{◌==◌, bytes_eq}
use Rattle.std.specs.List.{Contains}
use Rattle.std.specs.Cmp.{IsEquivalence}
use Rattle.std.specs.Set.{is_member}
use Rattle.std.proofs.lemmas.Bool.Decides.{Decides-eqb}
use Rattle.std.proofs.lemmas.Slice.Eq.{bytes_eq-Decides}
use Rattle.std.proofs.lemmas.Map.Made.{is_member-Decides, length-le_from_is_member}
use Rattle.hs_plain.proofs.ValidTrees.{both, first, second}
use Rattle.hs_plain.proofs.ValidShapes.{true_false}
use Rattle.inode_table.proofs.Reading.{same_id_so}
use Rattle.report_laws.specs.Differing.{Ids, ListEntry, same_entry, IsOneSided, FewDiffer}
use Rattle.report_laws.proofs.Spans.{Near}

pub entry_so : (a b : ListEntry) → same_entry a b ≡ true → a ≡ b
entry_so a b h =
    let rest = second (a.dir.0 == b.dir.0) _ h in
    let d : a.dir ≡ b.dir = same_id_so a.dir b.dir ((Decides-eqb a.dir.0 b.dir.0).0 (first (a.dir.0 == b.dir.0) _ h)) in
    let n : a.name ≡ b.name = (bytes_eq-Decides a.name b.name).0 (first (bytes_eq a.name b.name) _ rest) in
    let x : a.id ≡ b.id = same_id_so a.id b.id ((Decides-eqb a.id.0 b.id.0).0 (second (bytes_eq a.name b.name) _ rest)) in
    λ i. record { dir = d i; name = n i; id = x i }

entry_test : (a b : ListEntry) → a ≡ b → same_entry a b ≡ true
entry_test a b e = both ((Decides-eqb a.dir.0 b.dir.0).1 (ap (λ (x : ListEntry). x.dir.0) e)) (both ((bytes_eq-Decides a.name b.name).1 (ap (λ (x : ListEntry). x.name) e)) ((Decides-eqb a.id.0 b.id.0).1 (ap (λ (x : ListEntry). x.id.0) e)))

pub both_ways : (a b : Bool) → (a ≡ true → b ≡ true) → (b ≡ true → a ≡ true) → a ≡ b
both_ways true b there back = sym (there refl)
both_ways false true there back = back refl
both_ways false false there back = refl

entries_equiv : IsEquivalence same_entry
entries_equiv = record {
  refl = λ a. entry_test a a refl;
  symm = λ a b. both_ways (same_entry a b) (same_entry b a) (λ h. entry_test b a (sym (entry_so a b h))) (λ h. entry_test a b (sym (entry_so b a h)));
  congr = λ a b c h. ap (λ (x : ListEntry). same_entry x c) (entry_so a b h);
}

entry_decides : (a b : ListEntry) → (same_entry a b ≡ true → a ≡ b) × (a ≡ b → same_entry a b ≡ true)
entry_decides a b = (entry_so a b, entry_test a b)

pub few-near : (f g : Ids) (most : ℕ) → Near f g most → FewDiffer f g most
few-near f g most near xs distinct each =
    let le = length-le_from_is_member entries_equiv xs near.entries distinct (λ q h. found q (is_member same_entry near.entries q) refl (each q ((is_member-Decides entry_decides xs q).0 h))) in
    let few = near.few in omega (arith, le)
  where
    found : (q : ListEntry) (b : Bool) → is_member same_entry near.entries q ≡ b → IsOneSided f g q → is_member same_entry near.entries q ≡ true
    found q true e s = e
    found q false e s =
        let away : Contains near.entries q → ⊥ = λ c. true_false ((is_member-Decides entry_decides near.entries q).1 c) e in
        absurd (⊎_elim (λ k. s.not_both k (near.differ.forth q s.in_before s.in_after away k)) (λ k. s.not_both (near.differ.back q s.in_before s.in_after away k) k) s.one)
