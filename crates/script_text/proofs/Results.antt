-- The error of a `?`.
use Rattle.std.proofs.Common.{◌≡◌, Result, Ok, Err, sym, subst}
use Rattle.std.specs.Result.{IsErrAnd, IfErr}

pub err_at : {T E : Type 0} (r : Result T E) (x : E) (P : E → Type 0) → IsErrAnd r (λ y. y ≡ x) → P x → IfErr r P
err_at (Ok t) x P is p = absurd is
err_at (Err e) x P is p = subst P (sym is) p
