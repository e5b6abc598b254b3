-- Records put together, two halves at a time.
use Rattle.std.proofs.Common.{◌≡◌, ℕ, Bool, true, false, cond, List, [], ◌∷◌, ◌++◌, refl, sym, ap, subst, ◌∙◌}
use Rattle.std.specs.Prelude.{IsTrue, nat_le, nat_eq, if◌then◌else◌, ◌&&◌}
use Rattle.dir_changes.specs.Entries.{Entries, in_order}
use Rattle.dir_changes.specs.Undo.{ListDiff, undo, can_undo, combined}
use Rattle.dir_changes.specs.History.{Past, undo_all, can_undo_all, records_from}
use Rattle.dir_changes.specs.Together.{StandsForAll}
use Rattle.dir_changes.proofs.UndoLaw.{first, second, combines_undo}
use Rattle.dir_changes.proofs.ReadLaws.{in_order-undo_all}

undo_all-join : (rs qs : List Past) (x : Entries) → undo_all (rs ++ qs) x ≡ undo_all rs (undo_all qs x)
undo_all-join [] qs x = refl
undo_all-join (p ∷ rs) qs x = ap (undo p.diff) (undo_all-join rs qs x)

can_join : (rs qs : List Past) (x : Entries) → IsTrue (can_undo_all (rs ++ qs) x) → (IsTrue (can_undo_all rs (undo_all qs x))) × (IsTrue (can_undo_all qs x))
can_join [] qs x can = (refl, can)
can_join (p ∷ rs) qs x can =
    let rest = can_join rs qs x (first (can_undo_all (rs ++ qs) x) _ can) in
    (both_of (can_undo_all rs (undo_all qs x)) _ rest.0 (subst (λ (y : Entries). IsTrue (can_undo p.diff y)) (undo_all-join rs qs x) (second (can_undo_all (rs ++ qs) x) _ can)), rest.1)
  where
    both_of : (a b : Bool) → IsTrue a → IsTrue b → IsTrue (a && b)
    both_of true b h g = g
    both_of false b h g = h

-- one record's lists stand for it
pub stands_one : (d : ListDiff) (p : Past) → d ≡ p.diff → StandsForAll d (p ∷ [])
stands_one d p is x sorted can = (subst (λ (e : ListDiff). IsTrue (can_undo e x)) (sym is) (second true _ can), ap (λ e. undo e x) is)

-- those of two halves, put together, stand for all
pub stands_joined : (a b d : ListDiff) (rs qs : List Past) → d ≡ combined a b → StandsForAll a rs → StandsForAll b qs → StandsForAll d (rs ++ qs)
stands_joined a b d rs qs is stands_a stands_b x sorted can =
    let halves = can_join rs qs x can in
    let later = stands_b x sorted halves.1 in
    let between : IsTrue (in_order (undo_all qs x)) = in_order-undo_all qs x sorted in
    let earlier = stands_a (undo_all qs x) between halves.0 in
    let both = combines_undo a b x sorted later.0 (subst (λ (y : Entries). IsTrue (can_undo a y)) (sym later.1) earlier.0) in (
      subst (λ (e : ListDiff). IsTrue (can_undo e x)) (sym is) both.defined,
      ap (λ e. undo e x) is ∙ both.same ∙ ap (undo a) later.1 ∙ earlier.1 ∙ sym (undo_all-join rs qs x),
    )

-- the records from a number on can be undone where all can
pub can_from : (s : ℕ) (rs : List Past) (x : Entries) → IsTrue (can_undo_all rs x) → IsTrue (can_undo_all (records_from s rs) x)
can_from s [] x can = can
can_from s (p ∷ rs) x can = elim (nat_le s p.number.0) as (λ b. IsTrue (can_undo_all (cond b (p ∷ rs) (records_from s rs)) x)) [
  | true ↦ can
  | false ↦ can_from s rs x (first (can_undo_all rs x) _ can)
]

pub can_at : (s : ℕ) (rs : List Past) (x : Entries) → IsTrue (can_undo_all rs x) → IsTrue (can_undo_all (if nat_eq s 0 then [] else records_from s rs) x)
can_at s rs x can = elim (nat_eq s 0) as (λ b. IsTrue (can_undo_all (cond b [] (records_from s rs)) x)) [
  | true ↦ refl
  | false ↦ can_from s rs x can
]

-- the list at a number, by the records that tell it
pub undo_at : (s : ℕ) (rs : List Past) (x : Entries) → undo_all (if nat_eq s 0 then [] else records_from s rs) x ≡ (if nat_eq s 0 then x else undo_all (records_from s rs) x)
undo_at s rs x = elim (nat_eq s 0) as (λ b. undo_all (cond b [] (records_from s rs)) x ≡ cond b x (undo_all (records_from s rs) x)) [ true ↦ refl | false ↦ refl ]
