-- A node with another mode, by its path.
use Rattle.std.proofs.Common.{◌≡◌, ℕ, true, false, cond, Option, Some, None, refl, sym, ap, ◌∙◌}
use Rattle.std.specs.Prelude.{◌≢◌}
use Rattle.std.specs.Option.{option_map}
use Rattle.std.proofs.lemmas.Slice.Eq.{slice_eq-Decides, bytes_eq-Decides}
use Rattle.hs_types.specs.Names.{Names}
use Rattle.hs_plain.specs.declared.state.Node.{Node}
use Rattle.hs_plain.specs.Tree.{Tree, node_at, same_path}
use Rattle.hs_plain.specs.Change.{remode, moded}
use Rattle.hs_plain.proofs.ValidTrees.{remode-kept}
use Rattle.inode_table.proofs.Walking.{node_at-map}

module _ {B : Type 0} where
  pub node_at-moded : (t : Tree B) (p : Names) (n : Node B) (mode tick : ℕ) → node_at t p ≡ Some n → node_at (moded t p mode tick) p ≡ Some (record n { mode = mode; stamp = tick })
  node_at-moded t p n mode tick at = node_at-map (remode p mode tick) (remode-kept p mode tick) t p ∙ ap (option_map (λ m. (remode p mode tick (p, m)).1)) at
      ∙ ap (λ b. Some (cond {A = Names × Node B} b (p, record n { mode = mode; stamp = tick }) (p, n)).1) ((slice_eq-Decides bytes_eq-Decides p p (same_path p p) refl).1 refl)

  pub node_at-moded_other : (t : Tree B) (p : Names) (mode tick : ℕ) (q : Names) → q ≢ p → node_at (moded t p mode tick) q ≡ node_at t q
  node_at-moded_other t p mode tick q ne = node_at-map (remode p mode tick) (remode-kept p mode tick) t q ∙ unmoved (node_at t q)
    where
      other : same_path p q ≡ false
      other = elim (same_path p q) as (λ b. same_path p q ≡ b → b ≡ false) [
        | true ↦ λ s. absurd (ne (sym ((slice_eq-Decides bytes_eq-Decides p q (same_path p q) refl).0 s)))
        | false ↦ λ _. refl
      ] refl

      unmoved : (o : Option (Node B)) → option_map (λ m. (remode p mode tick (q, m)).1) o ≡ o
      unmoved None = refl
      unmoved (Some m) = ap (λ b. Some (cond {A = Names × Node B} b (q, record m { mode = mode; stamp = tick }) (q, m)).1) other
