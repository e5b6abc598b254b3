-- Records cut in two.
use Rattle.std.proofs.Common.{◌≡◌, ℕ, zero, suc, ◌<◌, ◌/◌, List, [], ◌∷◌, ◌++◌, length, map, take, drop, get_or, Result, Ok, Err, refl, sym, ap, arith}
use Rattle.std.specs.Prelude.{IfOk}
use Rattle.dir_changes.specs.declared.recorded.DirRecord.{DirRecord}
use Rattle.dir_changes.specs.Recorded.{past_of}

pub if_ok : {X E : Type 0} (r : Result X E) (P Q : X → Type 0) → ((x : X) → P x → Q x) → IfOk r P → IfOk r Q
if_ok (Ok x) P Q f p = f x p
if_ok (Err e) P Q f p = tt

-- half of one is nothing
pub one_only : (rs : List DirRecord) (r : DirRecord) → 0 < length rs → length rs / 2 ≡ 0 → r ≡ get_or rs 0 r → map past_of rs ≡ past_of r ∷ []
one_only [] r above half is = absurd (omega arith)
one_only (p ∷ []) r above half is = ap (λ q. past_of q ∷ []) (sym is)
one_only (p ∷ q ∷ rs) r above half is = absurd (omega arith)

-- both parts are the whole
pub cut : (n : ℕ) (rs : List DirRecord) → map past_of (take n rs) ++ map past_of (drop n rs) ≡ map past_of rs
cut zero rs = refl
cut (suc n) [] = refl
cut (suc n) (r ∷ rs) = ap (λ l. past_of r ∷ l) (cut n rs)
