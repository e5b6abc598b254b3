-- Two moments of a tree: outside of a short list of entries the child lists are the same.
use Rattle.std.proofs.Common.{◌≡◌, ℕ, ◌+◌, ◌<◌, ◌≤◌, List, [], ◌∷◌, ◌++◌, sym, Some, None, ap, ◌∙◌, append_assoc, length, length-append, arith}
use Rattle.std.specs.List.{Contains}
use Rattle.std.proofs.lemmas.List.Elements.{Contains-append_left, Contains-append_right}
use Rattle.hs_types.specs.Names.{Names}
use Rattle.hs_types.specs.declared.ids.InodeId.{InodeId}
use Rattle.hs_plain.proofs.ValidShapes.{none_some}
use Rattle.inode_table.specs.Reads.{child}
use Rattle.report_laws.specs.Differing.{Ids, ListEntry, Stands, Lists}

-- nothing without something above it, and each id once
pub record IsIds (ids : Ids) : Type 0 where
  pub above : (p : Names) (name : List ℕ) (x : InodeId) → ids (child p name) ≡ Some x → (y : InodeId) × (ids p ≡ Some y)
  pub once : (p q : Names) (x : InodeId) → ids p ≡ Some x → ids q ≡ Some x → p ≡ q

abbrev pub AreBelow : Ids → ℕ → Type 0
AreBelow ids next = (x : InodeId) → Stands ids x → x.0 < next

-- but for these, the entries of directories that stand in both are the same
pub record DifferIn (before after : Ids) (entries : List ListEntry) : Type 0 where
  pub forth : (e : ListEntry) → Stands before e.dir → Stands after e.dir → (Contains entries e → ⊥) → Lists before e → Lists after e
  pub back : (e : ListEntry) → Stands before e.dir → Stands after e.dir → (Contains entries e → ⊥) → Lists after e → Lists before e

-- at most so many entries differ
pub record Near (before after : Ids) (most : ℕ) : Type 0 where
  pub entries : List ListEntry
  pub few : length entries ≤ most
  pub differ : DifferIn before after entries

pub near-itself : (f : Ids) (most : ℕ) → Near f f most
near-itself f most = record { entries = []; few = omega arith; differ = record { forth = λ e _ _ _ k. k; back = λ e _ _ _ k. k } }

pub near-more : (f g : Ids) (a b : ℕ) → a ≤ b → Near f g a → Near f g b
near-more f g a b le n = record { entries = n.entries; few = (let few = n.few in omega (arith, le)); differ = n.differ }

pub near-back : (f g : Ids) (most : ℕ) → Near f g most → Near g f most
near-back f g most n = record {
  entries = n.entries;
  few = n.few;
  differ = record { forth = λ e was is away k. n.differ.back e is was away k; back = λ e was is away k. n.differ.forth e is was away k };
}

-- where nothing stands nothing differs
pub near-none : (f g : Ids) (most : ℕ) → ((p : Names) → f p ≡ None) → Near f g most
near-none f g most none = record {
  entries = [];
  few = omega arith;
  differ = record { forth = λ e was _ _ _. empty e.dir was; back = λ e was _ _ _. empty e.dir was };
}
  where
    empty : {X : Type 0} (x : InodeId) → Stands f x → X
    empty x h = absurd (none_some (sym (none h.at) ∙ h.is))

-- and ids below the first bound never come anew, and the bound rises
pub record Spans (before after : Ids) (next later most : ℕ) : Type 0 where
  pub near : Near before after most
  pub old : (x : InodeId) → Stands after x → x.0 < next → Stands before x
  pub grows : next ≤ later

pub spans-same : (f : Ids) (next most : ℕ) → Spans f f next next most
spans-same f next most = record { near = near-itself f most; old = λ x h _. h; grows = omega arith }

pub spans-chain : (f g h : Ids) (n0 n1 n2 a b most : ℕ) → a + b ≤ most → AreBelow f n0 → Spans f g n0 n1 a → Spans g h n1 n2 b → Spans f h n0 n2 most
spans-chain f g h n0 n1 n2 a b most le under first second = record {
  near = record {
    entries = one.entries ++ two.entries;
    few = let len : length (one.entries ++ two.entries) ≡ length one.entries + length two.entries = length-append one.entries two.entries in let c = one.few in let d = two.few in omega (arith, len);
    differ = record {
      forth = λ e was is away kid. let mid = between e.dir was is in
          two.differ.forth e mid is (λ c. away (Contains-append_right one.entries two.entries e c)) (one.differ.forth e was mid (λ c. away (Contains-append_left one.entries two.entries e c)) kid);
      back = λ e was is away kid. let mid = between e.dir was is in
          one.differ.back e was mid (λ c. away (Contains-append_left one.entries two.entries e c)) (two.differ.back e mid is (λ c. away (Contains-append_right one.entries two.entries e c)) kid);
    };
  };
  old = λ x is lt. first.old x (second.old x is (more x lt)) lt;
  grows = let c = first.grows in let d = second.grows in omega arith;
}
  where
    one : Near f g a
    one = first.near

    two : Near g h b
    two = second.near

    more : (x : InodeId) → x.0 < n0 → x.0 < n1
    more x lt = let c = first.grows in omega arith

    between : (x : InodeId) → Stands f x → Stands h x → Stands g x
    between x was is = second.old x is (more x (under x was))

-- ---- subtrees

-- what is at and below a path
abbrev pub below : Ids → Names → Ids
below ids path rest = ids (path ++ rest)

module _ (f g : Ids) (p q : Names) (is_f : IsIds f) (is_g : IsIds g) where
  part : (f : Ids) (p : Names) (x : InodeId) → Stands (below f p) x → Stands f x
  part f p x h = record { at = p ++ h.at; is = h.is }

  listed-whole : (f : Ids) (p : Names) (e : ListEntry) → Lists (below f p) e → Lists f e
  listed-whole f p e k = record { at = p ++ k.at; above = k.above; is = ap f (append_assoc p k.at (e.name ∷ [])) ∙ k.is }

  listed-part : (f : Ids) (p : Names) (e : ListEntry) → IsIds f → Stands (below f p) e.dir → Lists f e → Lists (below f p) e
  listed-part f p e is h k = let same : k.at ≡ p ++ h.at = is.once k.at (p ++ h.at) e.dir k.above h.is in
      record { at = h.at; above = h.is; is = ap f (sym (append_assoc p h.at (e.name ∷ [])) ∙ ap (λ (r : Names). child r e.name) (sym same)) ∙ k.is }

  -- no more entries differ between two subtrees
  pub near-below : (most : ℕ) → Near f g most → Near (below f p) (below g q) most
  near-below most n = record {
    entries = n.entries;
    few = n.few;
    differ = record {
      forth = λ e a b away k. listed-part g q e is_g b (n.differ.forth e (part f p e.dir a) (part g q e.dir b) away (listed-whole f p e k));
      back = λ e a b away k. listed-part f p e is_f a (n.differ.back e (part f p e.dir a) (part g q e.dir b) away (listed-whole g q e k));
    };
  }
