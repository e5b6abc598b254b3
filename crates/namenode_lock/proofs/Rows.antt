-- Passes and their seats, one after the other.
use Rattle.std.proofs.Common.{◌≡◌, ℕ, ◌+◌, ◌≤◌, List, [], ◌∷◌, ◌++◌, ap, sym, ◌∙◌, subst, append_assoc}
use Rattle.std.specs.Prelude.{All}
use Rattle.std.specs.List.{AllByRecursion}
use Rattle.std.proofs.lemmas.List.{map-append}
use Rattle.std.proofs.lemmas.List.Elements.{recursion_from_All, All-from_recursion}
use Rattle.turn_lock.specs.Seats.{Lock, Seat, AreInOrder}
use Rattle.turn_lock.specs.Order.{AreFrom}
use Rattle.turn_lock.proofs.Order.{in_order_from_zero}
use Rattle.namenode_lock.specs.Passes.{Passed, seat_of, seats_of, IsNew, AreNewFrom}

new_from : (lock : Lock) (first : ℕ) (seats : List Seat) → AreFrom lock first seats → AllByRecursion (λ (s : Seat). s.seen ≡ []) seats → lock.kept.limit ≤ 1000000 → AreNewFrom first seats
new_from lock first [] from fresh limited = tt
new_from lock first (seat ∷ seats) from fresh limited =
    (from.1, fresh.0, subst (λ (l : Lock). l.kept.limit ≤ 1000000) (sym from.0) limited, new_from lock (first + 1) seats from.2 fresh.1 limited)

-- the seats that a lock begins with
pub new_seats : (lock : Lock) (seats : List Seat) → AreInOrder lock seats → All (λ (s : Seat). s.seen ≡ []) seats → lock.kept.limit ≤ 1000000 → AreNewFrom 0 seats
new_seats lock seats order fresh limited = new_from lock 0 seats (in_order_from_zero lock seats order) (recursion_from_All (λ (s : Seat). s.seen ≡ []) seats fresh) limited

-- one pass more
pub made_more : (passes now : List Passed) (pass : Passed) (seat : Seat) (left rest all : List Seat) → now ≡ passes ++ pass ∷ [] → left ≡ seat ∷ rest → seat_of pass ≡ seat → seats_of passes ++ left ≡ all → seats_of now ++ rest ≡ all
made_more passes now pass seat left rest all pushed taken is made =
    ap (λ (l : List Passed). seats_of l ++ rest) pushed
    ∙ (ap (λ (l : List Seat). l ++ rest) (map-append seat_of passes (pass ∷ []))
    ∙ (append_assoc (seats_of passes) (seat_of pass ∷ []) rest
    ∙ (ap (λ (s : Seat). seats_of passes ++ s ∷ rest) is ∙ (ap (λ (l : List Seat). seats_of passes ++ l) (sym taken) ∙ made))))

new_snoc : (passes : List Passed) (pass : Passed) → AllByRecursion IsNew passes → IsNew pass → AllByRecursion IsNew (passes ++ pass ∷ [])
new_snoc [] pass all is = (is, tt)
new_snoc (p ∷ passes) pass all is = (all.0, new_snoc passes pass all.1 is)

pub new_more : (passes now : List Passed) (pass : Passed) → now ≡ passes ++ pass ∷ [] → All IsNew passes → IsNew pass → All IsNew now
new_more passes now pass pushed all is = subst (All IsNew) (sym pushed) (All-from_recursion IsNew (passes ++ pass ∷ []) (new_snoc passes pass (recursion_from_All IsNew passes all) is))
