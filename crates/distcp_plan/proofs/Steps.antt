-- One step through a list.
use Rattle.std.proofs.Common.{◌≡◌, ℕ, suc, ◌+◌, ◌-◌, ◌<◌, List, [], ◌∷◌, drop, length, get_or, refl, ap, sym, ◌∙◌, arith}
use Rattle.std.proofs.lemmas.List.{drop_more}
use Rattle.hs_types.specs.Names.{Names}
use Rattle.hs_plain.specs.Report.{last_of}

pub next : {X : Type 0} (xs : List X) (i : ℕ) (x : X) → i < length xs → x ≡ get_or xs i x → drop i xs ≡ x ∷ drop (i + 1) xs
next xs i x lt is = drop_more xs i x lt ∙ ap (λ (y : _). y ∷ drop (i + 1) xs) (sym is)

pub last-at : (path : Names) (other : List ℕ) → 0 < length path → get_or path (length path - 1) other ≡ last_of path
last-at [] other some = absurd (omega arith)
last-at (name ∷ []) other some = refl
last-at (name ∷ next_name ∷ rest) other some =
    let e : length (name ∷ next_name ∷ rest) - 1 ≡ suc (length (next_name ∷ rest) - 1) = omega arith in
    ap (λ (n : ℕ). get_or (name ∷ next_name ∷ rest) n other) e ∙ last-at (next_name ∷ rest) other (omega arith)
