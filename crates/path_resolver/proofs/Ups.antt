-- Going up from an inode in steps.
use Rattle.std.proofs.Common.{◌≡◌, ℕ, suc, ◌+◌, Bool, true, false, not, ◌||◌, Option, Some, None, refl, ap, ◌∙◌, arith}
use Rattle.hs_types.specs.declared.ids.InodeId.{InodeId}
use Rattle.hs_plain.specs.Tree.{same_inode}
use Rattle.inode_table.specs.Reads.{Shown}
use Rattle.path_resolver.specs.Above.{up_from, go_on, comes_up}

pub not-true : (b : Bool) → not b ≡ true → b ≡ false
not-true true h = cc
not-true false h = refl

module _ {B : Type 0} (shown : Shown B) (above : InodeId) where
  more : (n : ℕ) (id : InodeId) → comes_up shown above (n + 1) id ≡ (same_inode id above || go_on (comes_up shown above n) (up_from shown id))
  more n id = ap (λ k. comes_up shown above k id) {x = n + 1} {y = suc n} (omega arith)

  -- it is come to
  pub comes-here : (n : ℕ) (id : InodeId) → same_inode id above ≡ true → comes_up shown above (n + 1) id ≡ true
  comes-here n id same = more n id ∙ rw same refl

  -- a step more
  pub comes-on : (n : ℕ) (id parent : InodeId) → same_inode id above ≡ false → up_from shown id ≡ Some parent → comes_up shown above (n + 1) id ≡ comes_up shown above n parent
  comes-on n id parent other up = more n id ∙ rw (other, up) refl

  -- no step more
  pub comes-last : (n : ℕ) (id : InodeId) → same_inode id above ≡ false → up_from shown id ≡ None → comes_up shown above (n + 1) id ≡ false
  comes-last n id other up = more n id ∙ rw (other, up) refl

  -- none is left
  pub comes-out : (id : InodeId) → same_inode id above ≡ false → comes_up shown above (0 + 1) id ≡ false
  comes-out id other = more 0 id ∙ rw other (none (up_from shown id))
    where
      none : (o : Option InodeId) → go_on (comes_up shown above 0) o ≡ false
      none None = refl
      none (Some parent) = refl
