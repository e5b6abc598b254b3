-- A path that isn't one name longer than a directory's isn't of a child.
use Rattle.std.proofs.Common.{◌≡◌, ◌+◌, true, false, cond, None, [], ◌∷◌, length, drop, refl, arith}
use Rattle.std.proofs.lemmas.List.{length-drop}
use Rattle.std.specs.Prelude.{bytes_eq}
use Rattle.std.specs.List.{starts_with}
use Rattle.hs_types.specs.Names.{Names}
use Rattle.hs_plain.specs.Tree.{only_name, name_below}

only-none : (names : Names) → (length names ≡ 1 → ⊥) → only_name names ≡ None
only-none [] other = refl
only-none (name ∷ []) other = absurd (other refl)
only-none (name ∷ next ∷ rest) other = refl

pub below-none : (dir path : Names) → (length path ≡ length dir + 1 → ⊥) → name_below dir path ≡ None
below-none dir path other =
    elim (starts_with bytes_eq path dir) as (λ b. cond b (only_name (drop (length dir) path)) None ≡ None) [
      | true ↦ only-none (drop (length dir) path) (λ one. other (omega (arith, one, length-drop (length dir) path)))
      | false ↦ refl
    ]
