-- Elements of a list, by what stands before and behind them.
use Rattle.std.proofs.Common.{◌≡◌, inl, inr, List, [], ◌∷◌, ◌++◌, refl, ap, sym, subst, ◌∙◌, append_assoc}
use Rattle.std.specs.List.{Contains}
use Rattle.hs_plain.proofs.ValidLists.{In, in-right as after-front, in-contains, contains-in}

-- an element of a list
pub record IsIn {A : Type 0} (xs : List A) (x : A) : Type 0 where
  pub before : List A
  pub after : List A
  pub is : xs ≡ before ++ x ∷ after

pub in-right : {A : Type 0} (xs ys : List A) (x : A) → IsIn ys x → IsIn (xs ++ ys) x
in-right xs ys x at = record { before = xs ++ at.before; after = at.after; is = ap (λ zs. xs ++ zs) at.is ∙ sym (append_assoc xs at.before (x ∷ at.after)) }

pub in-left : {A : Type 0} (xs ys : List A) (x : A) → IsIn xs x → IsIn (xs ++ ys) x
in-left xs ys x at = record { before = at.before; after = at.after ++ ys; is = ap (λ zs. zs ++ ys) at.is ∙ append_assoc at.before (x ∷ at.after) ys }

pub split-in : {A : Type 0} (xs : List A) (x : A) → In xs x → IsIn xs x
split-in [] x at = absurd at
split-in (y ∷ ys) x (inl e) = record { before = []; after = ys; is = ap (λ z. z ∷ ys) e }
split-in (y ∷ ys) x (inr at) = in-right (y ∷ []) ys x (split-in ys x at)

pub split-at : {A : Type 0} (xs : List A) (x : A) → Contains xs x → IsIn xs x
split-at xs x at = split-in xs x (in-contains xs x at)

pub contains-at : {A : Type 0} (xs : List A) (x : A) → IsIn xs x → Contains xs x
contains-at xs x at = contains-in xs x (subst (λ zs. In zs x) (sym at.is) (after-front at.before (x ∷ at.after) x (inl refl)))
