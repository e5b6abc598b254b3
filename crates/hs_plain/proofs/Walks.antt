-- One step of a walk, and paths of different lengths.
use Rattle.std.proofs.Common.{◌≡◌, ℕ, ◌+◌, ◌<◌, suc, true, false, [], take, drop, length, refl, ap, sym, ◌∙◌, arith, get_or}
use Rattle.std.proofs.Math.Seq.{drop-cons}
use Rattle.std.proofs.Math.Facts.{eqb_yes}
use Rattle.std.specs.Prelude.{nat_eq}
use Rattle.std.specs.Ordering.{is_eq}
use Rattle.std.specs.declared.cmp.Ordering.TheVariants.{Less, Equal, Greater}
use Rattle.std.proofs.lemmas.List.{take_more}
use Rattle.hs_types.specs.Names.{Names}
use Rattle.hs_plain.specs.Asked.{◌>>=◌}
use Rattle.hs_plain.specs.Tree.{Tree, path_cmp, node_at, passes, walks_from}
use Rattle.hs_plain.proofs.ValidTrees.{paths_exact, holds_so}

pub walks_from_at : {B : Type 0} (tree : Tree B) (path : Names) (depth : ℕ) → depth < length path →
    walks_from tree (take depth path) (drop depth path) ≡ (passes (node_at tree (take depth path)) >>= λ _. walks_from tree (take (depth + 1) path) (drop (depth + 1) path))
walks_from_at tree path depth lt =
    let name = get_or path depth [] in
    ap (walks_from tree (take depth path)) (drop-cons path depth [] lt)
    ∙ ap (λ (here : Names). passes (node_at tree (take depth path)) >>= λ _. walks_from tree here (drop (suc depth) path)) (sym (take_more path depth [] lt))
    ∙ ap (λ n. passes (node_at tree (take depth path)) >>= λ _. walks_from tree (take (depth + 1) path) (drop n path)) {x = suc depth} {y = depth + 1} (omega arith)

-- paths of different lengths aren't one
pub lengths_differ : (path place : Names) → (length place ≡ length path → ⊥) → nat_eq (length place) (length path) ≡ is_eq (path_cmp path place)
lengths_differ path place differ =
    elim (nat_eq (length place) (length path)) as (λ b. nat_eq (length place) (length path) ≡ b → b ≡ is_eq (path_cmp path place)) [
      | true ↦ λ same. absurd (differ (eqb_yes (holds_so same)))
      | false ↦ λ _.
          elim (path_cmp path place) as (λ o. path_cmp path place ≡ o → false ≡ is_eq o) [
            | Less ↦ λ _. refl
            | Equal ↦ λ same. absurd (differ (ap length (sym (paths_exact path place same))))
            | Greater ↦ λ _. refl
          ] refl
    ] refl
